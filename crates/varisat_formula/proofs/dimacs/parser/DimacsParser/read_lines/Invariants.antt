use Rattle.std.proofs.Common.{◌-◌, length}
use Rattle.varisat_formula.specs.promises.Rest.{ReadsOn}
use Rattle.varisat_formula.proofs.dimacs.parser.DimacsParser.read_lines.Given as goal

abbrev pub invariant-lines : goal.invariant-lines
invariant-lines g l = ReadsOn l.fn.self l.bytes l.count l.self

abbrev pub decreases-lines : goal.decreases-lines
decreases-lines g l = length l.bytes - l.count
