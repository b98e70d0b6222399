use Rattle.std.proofs.Common.{◌≡◌, take}
use Rattle.varisat_formula.specs.inside.Machine.{GoesOnTo}
use Rattle.varisat_formula.proofs.dimacs.token.Word.with_bytes.Given as goal

abbrev pub invariant-loop-b : goal.invariant-loop-b
invariant-loop-b l = record {
  counted : l.count ≡ l.b-index;
  word : GoesOnTo l.fn.self (take l.b-index l.bytes) l.word;
}
