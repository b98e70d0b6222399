use Rattle.varisat_formula.proofs.ParserProgress.{reads_line_feed}
use Rattle.varisat_formula.proofs.dimacs.parser.DimacsParser.byte.Goals as goal

pub returns-in_ok-end_line-clause-ok : goal.returns-in_ok-end_line-clause-ok
returns-in_ok-end_line-clause-ok g c = reads_line_feed _ _ _ c.requires.reads_on.not_over c.if-b-eq10.true c.in_ok-end_line.ensures.ok
