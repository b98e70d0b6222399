use Rattle.varisat_theory.proofs.clauses.Assigned.{same_set_satisfied, tautology_satisfied}
use Rattle.varisat_theory.proofs.laws.soundness.sets_are_satisfied_alike.Goals as goal

pub returns : goal.returns
returns c = ((λ a d e s. (same_set_satisfied a d e s.0, same_set_satisfied a e d s.1)), tautology_satisfied)
