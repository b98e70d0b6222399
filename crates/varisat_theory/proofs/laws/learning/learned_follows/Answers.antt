use Rattle.std.proofs.Common.{◌≡◌, true}
use Rattle.varisat_theory.proofs.clauses.Learning.{learned_follows}
use Rattle.varisat_theory.proofs.laws.learning.learned_follows.Goals as goal

pub returns : goal.returns
returns c = λ P conflict reason resolved. learned_follows P conflict reason (λ k. resolved k ≡ true)
