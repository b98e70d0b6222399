use Rattle.std.proofs.Common.{take}
use Rattle.varisat_plain.specs.promises.Checking.{IsAbsent, clause_lists}
use Rattle.varisat_plain.proofs.checker.place_of.Given as goal

abbrev pub invariant-loop-i : goal.invariant-loop-i
invariant-loop-i l = IsAbsent (take l.i (clause_lists l.present)) l.clause
