use Rattle.std.proofs.Common.{sym, refl, ◌∙◌}
use Rattle.varisat_database.specs.Databases.{clause_at}
use Rattle.varisat_rules.proofs.UnitLemmas.{shortened}
use Rattle.varisat_rules.proofs.units.shorten.Goals as goal

pub returns : goal.returns
returns g c =
    shortened c.args.db.now c.push.new.self c.remove.new.self c.args.place (clause_at c.args.db.now c.args.place) c.deref.result.now
    c.without_false.new.out.items refl c.deref.ensures.value (c.in_ok-push.ensures {u = tt}).ok (c.in_ok-remove.ensures {u = tt})
    (sym c.is_live.ensures ∙ c.if-not-is_live.false) (c.in_ok-without_false.ensures {u = tt})
