use Rattle.std.proofs.Common.{rules}
use Rattle.varisat_formula.proofs.dimacs.writer.write_literal.Goals as goal

pub returns-then-is_negative : goal.returns-then-is_negative
returns-then-is_negative g c = search rules
