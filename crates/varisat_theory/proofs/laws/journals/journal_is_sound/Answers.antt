use Rattle.varisat_theory.proofs.journals.Journals.{leads_sound}
use Rattle.varisat_theory.proofs.laws.journals.journal_is_sound.Goals as goal

pub returns : goal.returns
returns c = leads_sound
