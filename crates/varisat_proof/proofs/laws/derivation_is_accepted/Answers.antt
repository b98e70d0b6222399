use Rattle.varisat_proof.proofs.RightResults.{derivation_accepted}
use Rattle.varisat_proof.proofs.laws.derivation_is_accepted.Goals as goal

pub returns : goal.returns
returns c = derivation_accepted c.args._format
