use Rattle.varisat_theory.proofs.journals.RenamedJournals.{leads_renamed, leads_unrenamed}
use Rattle.varisat_theory.proofs.laws.journals.journal_is_renamed.Goals as goal

pub returns : goal.returns
returns c = λ f w ls one. record { there = leads_renamed f w ls one; back = leads_unrenamed f w ls one }
