use Rattle.std.proofs.Common.{take}
use Rattle.varisat_solver.specs.inside.Detached.{FlagsVariables}
use Rattle.varisat_solver.proofs.detaching.flag_variables.Given as goal

abbrev pub invariant-loop-lit : goal.invariant-loop-lit
invariant-loop-lit g l = FlagsVariables l.count (take l.lit-index l.lits) l.flags.items
