use Rattle.varisat_theory.proofs.journals.Journals.{leads_unique, by_leads_same}
use Rattle.varisat_theory.proofs.laws.journals.journal_is_determined.Goals as goal

pub returns : goal.returns
returns c = record { same = leads_unique; counts = by_leads_same }
