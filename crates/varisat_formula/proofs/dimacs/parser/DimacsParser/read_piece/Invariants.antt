use Rattle.std.proofs.Common.{◌-◌, length}
use Rattle.varisat_formula.specs.promises.Rest.{ReadsOn}
use Rattle.varisat_formula.proofs.dimacs.parser.DimacsParser.read_piece.Given as goal

abbrev pub invariant-bytes : goal.invariant-bytes
invariant-bytes g l = ReadsOn l.fn.self l.piece l.at l.self

abbrev pub decreases-bytes : goal.decreases-bytes
decreases-bytes g l = length l.piece - l.at
