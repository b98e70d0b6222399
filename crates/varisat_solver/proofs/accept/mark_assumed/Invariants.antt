use Rattle.std.proofs.Common.{take}
use Rattle.varisat_solver.specs.inside.Accepting.{AreMarked}
use Rattle.varisat_solver.proofs.accept.mark_assumed.Given as goal

abbrev pub invariant-loop-lit : goal.invariant-loop-lit
invariant-loop-lit g l = AreMarked (take l.lit-index l.list) l.assumed l.fn.variables l.variables
