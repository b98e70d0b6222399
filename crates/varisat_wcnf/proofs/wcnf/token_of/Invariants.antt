use Rattle.std.proofs.Common.{◌≡◌, take}
use Rattle.varisat_formula.specs.inside.Machine.{no_word, word_from}
use Rattle.varisat_wcnf.proofs.wcnf.token_of.Given as goal

abbrev pub invariant-loop-byte : goal.invariant-loop-byte
invariant-loop-byte l = word_from no_word (take l.byte-index l.word) ≡ l.read
