use Rattle.std.proofs.Common.{map, take}
use Rattle.varisat_plain.specs.promises.Checking.{clause_lists, line_of}
use Rattle.varisat_plain.proofs.Checking.{Checked}
use Rattle.varisat_plain.proofs.checker.check_lines.Given as goal

abbrev pub invariant-loop-i : goal.invariant-loop-i
invariant-loop-i l = Checked (clause_lists l.clauses) (take l.i (map line_of l.lines)) (clause_lists l.present.items)
