use Rattle.varisat_theory.proofs.clauses.ConflictForms.{uses_from_conflicts, conflicts_from_uses}
use Rattle.varisat_theory.proofs.laws.soundness.conflict_is_propagation.Goals as goal

pub returns : goal.returns
returns c = λ P base. (uses_from_conflicts P base, conflicts_from_uses P base)
