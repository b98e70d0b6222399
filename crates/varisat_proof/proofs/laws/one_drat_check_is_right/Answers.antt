use Rattle.varisat_lines.specs.promises.Lines.{plain_encoding}
use Rattle.varisat_proof.proofs.DratOnce.{drat_once}
use Rattle.varisat_proof.proofs.laws.one_drat_check_is_right.Goals as goal

pub returns : goal.returns
returns c = drat_once (plain_encoding c.args._format)
