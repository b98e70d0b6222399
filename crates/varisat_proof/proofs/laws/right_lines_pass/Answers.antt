use Rattle.varisat_lines.specs.promises.Lines.{encoding_of}
use Rattle.varisat_proof.proofs.MarkedOnce.{check_through}
use Rattle.varisat_proof.proofs.laws.right_lines_pass.Goals as goal

pub returns : goal.returns
returns c = check_through (encoding_of c.args._format)
