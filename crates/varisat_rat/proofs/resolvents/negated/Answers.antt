use Rattle.std.proofs.Common.{ap, ◌∙◌}
use Rattle.std.proofs.lemmas.List.{take_all, get_or_read}
use Rattle.varisat_theory.specs.promises.Literals.{opposite, opposites}
use Rattle.varisat_plain.proofs.Scans.{opposites_more}
use Rattle.varisat_rat.proofs.resolvents.negated.Goals as goal

pub loop-l-preserved : goal.loop-l-preserved
loop-l-preserved g c =
    opposites_more c.args.clause.now c.loop-l.l-index c.loop-l.base.items c.push.new.self.items c.not.result c.loop-l-test.true c.loop-l.invariant
    c.in_ok-push.ensures.items
    (c.not.ensures ∙ ap opposite (get_or_read c.args.clause.now c.loop-l.l-index c.l-item.result c.loop-l-test.true c.l-item.is 0))

pub returns : goal.returns
returns g c = c.loop-l.invariant ∙ ap opposites (take_all c.loop-l.l-index c.args.clause.now c.loop-l-test.false)
