use Rattle.std.proofs.Common.{take}
use Rattle.varisat_solver.specs.promises.Names.{name_all}
use Rattle.varisat_solver.specs.inside.Accepting.{naming_of}
use Rattle.varisat_solver.proofs.accepting.NamesComing.{AreCounted}
use Rattle.varisat_solver.proofs.name_checks.count_alone.Given as goal

abbrev pub invariant-loop-index : goal.invariant-loop-index
invariant-loop-index g l = AreCounted (naming_of l.variables) (take l.index l.clause) (name_all (take l.index l.clause) (naming_of l.variables)) l.count
