-- Elements that loops read.
use Rattle.std.proofs.Common.{◌≡◌, ℕ, ◌<◌, List, length, sym, subst, get_or}
use Rattle.varisat_theory.specs.promises.Membership.{◌∈◌}
use Rattle.varisat_theory.proofs.clauses.Places.{∈-get_or}

pub element_in : (xs : List ℕ) (i v : ℕ) → i < length xs → v ≡ get_or xs i v → v ∈ xs
element_in xs i v h e = subst (λ x. x ∈ xs) (sym e) (∈-get_or xs i v h)
