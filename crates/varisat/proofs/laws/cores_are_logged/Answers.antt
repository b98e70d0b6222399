use Rattle.varisat.proofs.WrittenProofs.{cores-are-logged}
use Rattle.varisat.proofs.laws.cores_are_logged.Goals as goal

pub returns : goal.returns
returns c = cores-are-logged
