use Rattle.std.proofs.Common.{sym, ◌∙◌}
use Rattle.varisat_rules.proofs.ResolveLemmas.{granted}
use Rattle.varisat_rules.proofs.UnitLemmas.{only_one}
use Rattle.varisat_rules.proofs.units.is_fixed.Goals as goal

pub returns : goal.returns
returns g c = λ t. (
  _,
  sym c.is_live.ensures ∙ c.if-not-is_live.false,
  sym c.clause-clause.ensures ∙ only_one c.clause-clause.result.now c.args.lit c.if-clause-ne1.false (granted _ c.holds.result t c.holds.ensures),
)
