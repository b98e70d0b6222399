use Rattle.varisat.proofs.WrittenProofs.{cores-are-written}
use Rattle.varisat.proofs.laws.cores_are_written.Goals as goal

pub returns : goal.returns
returns c = cores-are-written
