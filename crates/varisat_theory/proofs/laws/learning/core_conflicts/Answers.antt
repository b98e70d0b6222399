use Rattle.std.proofs.Common.{◌≡◌, true, [], ◌∷◌, refl}
use Rattle.varisat_theory.proofs.clauses.Learning.{core_conflicts}
use Rattle.varisat_theory.proofs.laws.learning.core_conflicts.Goals as goal

pub returns : goal.returns
returns c = λ P l reason resolved place core i. core_conflicts P (l ∷ []) reason (λ k. resolved k ≡ true) place core l refl i
