use Rattle.std.proofs.lemmas.Grind.{common_steps}
use Rattle.std.proofs.Common.{ap, refl, arith}
use Rattle.varisat_names.proofs.LinkedCalls.{data-set}
use Rattle.varisat_names.proofs.variables.linked.LinkedVariables.set_unit.Goals as goal

pub invariant_of-self : goal.invariant_of-self
invariant_of-self g c = data-set (ap (λ s. s.variables) c.self-inside.view_is) c.self.invariant c.args.global c.self.view_is c.requires
    c.data-kept.ensures refl c.set_data.ensures.kept c.set_data.ensures.listed

pub data-kept-requires : goal.data-kept-requires
data-kept-requires g c = grind (arith, common_steps)

pub set_data-requires-clause-made : goal.set_data-requires-clause-made
set_data-requires-clause-made g c = grind (arith, common_steps)
