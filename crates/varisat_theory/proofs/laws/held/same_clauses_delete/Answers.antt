use Rattle.varisat_theory.proofs.clauses.Held.{same_delete}
use Rattle.varisat_theory.proofs.laws.held.same_clauses_delete.Goals as goal

pub returns : goal.returns
returns c = same_delete
