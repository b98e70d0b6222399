use Rattle.varisat_simplify.proofs.UnloadLemmas.{refutes_made}
use Rattle.varisat_simplify.proofs.laws.refutes_behind.Goals as goal

pub returns : goal.returns
returns c = refutes_made
