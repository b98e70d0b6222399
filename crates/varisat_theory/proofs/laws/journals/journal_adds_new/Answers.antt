use Rattle.varisat_theory.proofs.journals.NewClauses.{adding_leads, adding_append, adding_same, adding_adds, copy_adds_none, tautology_adds_none, blank_adds_none}
use Rattle.varisat_theory.proofs.laws.journals.journal_adds_new.Goals as goal

pub returns : goal.returns
returns c = record {
  join = adding_append;
  same = adding_same;
  leads = adding_leads;
  added = adding_adds;
  copy = copy_adds_none;
  tautology = tautology_adds_none;
  blank = blank_adds_none;
}
