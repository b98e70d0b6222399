use Rattle.std.proofs.Common.{◌≡◌, take}
use Rattle.varisat_search.proofs.variables.ForgottenValues.{forgotten_values}
use Rattle.varisat_search.proofs.forgetting.forget_values.Given as goal

abbrev pub invariant-loop-index : goal.invariant-loop-index
invariant-loop-index g l = l.assignment ≡ forgotten_values (take l.index l.gone) l.fn.assignment
