use Rattle.std.proofs.Common.{◌≡◌, take}
use Rattle.varisat_formula.specs.declared.dimacs.token.Digits.TheVariants.{Empty}
use Rattle.varisat_formula.specs.inside.Machine.{digits_from}
use Rattle.varisat_wcnf.proofs.wcnf.number_of.Given as goal

abbrev pub invariant-loop-byte : goal.invariant-loop-byte
invariant-loop-byte l = digits_from Empty (take l.byte-index l.word) ≡ l.digits
