use Rattle.std.proofs.Common.{rules}
use Rattle.varisat_formula.proofs.dimacs.parser.DimacsParser.finish.Goals as goal

pub returns-in-None-clause-reads : goal.returns-in-None-clause-reads
returns-in-None-clause-reads g c = search rules
