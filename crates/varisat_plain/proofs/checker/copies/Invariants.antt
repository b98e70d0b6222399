use Rattle.std.proofs.Common.{◌≡◌, take}
use Rattle.varisat_plain.specs.promises.Checking.{clause_lists}
use Rattle.varisat_plain.proofs.checker.copies.Given as goal

abbrev pub invariant-loop-clause : goal.invariant-loop-clause
invariant-loop-clause l = clause_lists l.made.items ≡ take l.clause-index (clause_lists l.clauses)
