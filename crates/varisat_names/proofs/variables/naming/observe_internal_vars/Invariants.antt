use Rattle.varisat_names.proofs.NamedVariables.{ShowsBelow}
use Rattle.varisat_names.proofs.variables.naming.observe_internal_vars.Given as goal

abbrev pub invariant-loop-index : goal.invariant-loop-index
invariant-loop-index g l = ShowsBelow l.index l.shown.items l.fn.variables l.variables
