use Rattle.std.proofs.Common.{◌∙◌}
use Rattle.varisat_calls.proofs.SimplifierSteps.{few_values}
use Rattle.varisat_calls.proofs.simplifier.list_extended.Goals as goal

pub list_values-requires : goal.list_values-requires
list_values-requires g c = few_values c.args.stack.now c.args.count c.args.literals.now _ c.requires (c.deref.ensures.value ∙ c.in_ok-values.ensures {u = tt})
