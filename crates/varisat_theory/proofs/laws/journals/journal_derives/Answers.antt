use Rattle.varisat_theory.proofs.journals.Journals.{leads_derives, leads_refutes}
use Rattle.varisat_theory.proofs.laws.journals.journal_derives.Goals as goal

pub returns : goal.returns
returns c = record { derives = leads_derives; refutes = leads_refutes }
