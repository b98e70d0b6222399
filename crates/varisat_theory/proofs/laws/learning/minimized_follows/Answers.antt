use Rattle.std.proofs.Common.{◌≡◌, true}
use Rattle.varisat_theory.proofs.clauses.Learning.{minimized_follows}
use Rattle.varisat_theory.proofs.laws.learning.minimized_follows.Goals as goal

pub returns : goal.returns
returns c = λ P d kept marked. minimized_follows P d kept (λ k. marked k ≡ true)
