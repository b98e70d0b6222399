use Rattle.varisat_proof.proofs.RightResults.{result_once}
use Rattle.varisat_proof.proofs.laws.one_result_is_right.Goals as goal

pub returns : goal.returns
returns c = result_once c.args._format
