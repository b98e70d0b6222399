use Rattle.std.proofs.Common.{sym, ◌∙◌}
use Rattle.varisat_rules.proofs.CompareLemmas.{compares}
use Rattle.varisat_rules.proofs.subsume.compare.Goals as goal

pub returns : goal.returns
returns g c =
    compares c.args.db.now c.args.place c.args.other c.clause-one.result.now c.clause-longer.result.now c.relation_of.result c.clause-one.ensures c.clause-longer.ensures
    (sym c.is_live-2.ensures ∙ c.if-not-is_live-2.false) (sym c.is_live.ensures ∙ c.if-not-is_live.false) (λ q. c.if-other-place.false (sym q))
    c.relation_of.ensures
