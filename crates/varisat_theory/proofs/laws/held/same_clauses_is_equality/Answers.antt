use Rattle.varisat_theory.proofs.clauses.Held.{same_clauses-self, same_clauses-back, same_clauses-through}
use Rattle.varisat_theory.proofs.laws.held.same_clauses_is_equality.Goals as goal

pub returns : goal.returns
returns c = (same_clauses-self, same_clauses-back, same_clauses-through)
