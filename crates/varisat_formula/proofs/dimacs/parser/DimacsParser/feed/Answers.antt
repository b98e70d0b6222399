use Rattle.std.proofs.Common.{sym, inl}
use Rattle.varisat_formula.proofs.ParserProgress.{advances_failed}
use Rattle.varisat_formula.proofs.dimacs.parser.DimacsParser.feed.Goals as goal

pub returns-in-Some-clause-reads : goal.returns-in-Some-clause-reads
returns-in-Some-clause-reads g c = inl (advances_failed _ c.in-Some.fault _ (sym c.in-Some.ensures))

pub returns-clause-reads : goal.returns-clause-reads
returns-clause-reads g c = c.read_piece.ensures.reads
