use Rattle.std.proofs.Common.{rules}
use Rattle.varisat_formula.proofs.dimacs.reading.Reader.end.Goals as goal

pub returns-then-not-is_empty : goal.returns-then-not-is_empty
returns-then-not-is_empty g c = search rules
