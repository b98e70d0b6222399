use Rattle.std.proofs.Common.{◌≡◌, ◌++◌, drop}
use Rattle.varisat_formula.specs.promises.Values.{literals_from}
use Rattle.varisat_formula.proofs.values.literals_of.Given as goal

abbrev pub invariant-loop-index : goal.invariant-loop-index
invariant-loop-index g l = l.literals.items ++ literals_from l.index (drop l.index l.values) ≡ literals_from 0 l.values
