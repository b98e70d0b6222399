use Rattle.varisat.proofs.WrittenProofs.{bytes-are-accepted}
use Rattle.varisat.proofs.laws.bytes_are_accepted.Goals as goal

pub returns : goal.returns
returns c = bytes-are-accepted
