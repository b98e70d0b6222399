use Rattle.varisat_proof.proofs.PassingJournals.{journals_pass}
use Rattle.varisat_proof.proofs.laws.right_journals_pass.Goals as goal

pub returns : goal.returns
returns c = journals_pass
