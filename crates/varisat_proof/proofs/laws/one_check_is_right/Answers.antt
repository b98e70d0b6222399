use Rattle.varisat_lines.specs.promises.Lines.{encoding_of}
use Rattle.varisat_proof.proofs.MarkedOnce.{check_once}
use Rattle.varisat_proof.proofs.laws.one_check_is_right.Goals as goal

pub returns : goal.returns
returns c = check_once (encoding_of c.args._format)
