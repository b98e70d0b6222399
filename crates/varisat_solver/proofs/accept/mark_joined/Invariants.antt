use Rattle.std.proofs.Common.{take}
use Rattle.varisat_solver.proofs.modes.TableMarks.{AreOpened}
use Rattle.varisat_solver.proofs.accept.mark_joined.Given as goal

abbrev pub invariant-loop-lit : goal.invariant-loop-lit
invariant-loop-lit g l = AreOpened (take l.lit-index l.clause) l.fn.variables l.variables
