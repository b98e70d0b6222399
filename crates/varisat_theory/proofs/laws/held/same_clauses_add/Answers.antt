use Rattle.varisat_theory.proofs.clauses.Held.{same_add}
use Rattle.varisat_theory.proofs.laws.held.same_clauses_add.Goals as goal

pub returns : goal.returns
returns c = same_add
