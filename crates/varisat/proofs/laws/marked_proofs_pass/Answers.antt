use Rattle.varisat.proofs.WrittenProofs.{marked-proofs-pass}
use Rattle.varisat.proofs.laws.marked_proofs_pass.Goals as goal

pub returns : goal.returns
returns c = marked-proofs-pass
