use Rattle.varisat_theory.proofs.journals.Journals.{leads_append, leads_cut, by_leads, by_leads_append}
use Rattle.varisat_theory.proofs.laws.journals.journals_join.Goals as goal

pub returns : goal.returns
returns c = record { join = leads_append; counts = by_leads_append; cut = leads_cut; counted_leads = by_leads }
