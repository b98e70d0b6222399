-- How long clauses over the variables of a search are at most.
use Rattle.std.proofs.Common.{◌≡◌, ℕ, ◌<◌, ◌≤◌, [], ◌∷◌, length, map, inl, inr, ⊎_elim, sym, subst, refl, arith}
use Rattle.std.proofs.lemmas.List.{length-map}
use Rattle.varisat_theory.specs.promises.Membership.{◌∈◌, IsDistinct}
use Rattle.varisat_theory.specs.promises.Literals.{Literal, Clause, variable_of, opposite}
use Rattle.varisat_theory.specs.promises.Searches.{IsTautology}
use Rattle.varisat_prop.proofs.pairs.DistinctPlaces.{distinct-below}
use Rattle.varisat_theory.proofs.clauses.Values.{same_or_opposite}

of-variable : (c : Clause) (v : ℕ) → v ∈ map variable_of c → (l : Literal) × (l ∈ c) × (variable_of l ≡ v)
of-variable [] v h = absurd h
of-variable (x ∷ c) v (inl e) = (x, inl refl, sym e)
of-variable (x ∷ c) v (inr h) = let (l, i, e) = of-variable c v h in (l, inr i, e)

-- a clause that is no tautology and has no literal twice has no variable twice
variables-distinct : (c : Clause) → IsDistinct c → (IsTautology c → ⊥) → IsDistinct (map variable_of c)
variables-distinct [] d n = tt
variables-distinct (x ∷ c) d n = (
  λ h.
      let (l, i, e) = of-variable c (variable_of x) h in
      ⊎_elim (λ (q : l ≡ x). d.0 (subst (λ y. y ∈ c) q i)) (λ (q : l ≡ opposite x). n (x, inl refl, inr (subst (λ y. y ∈ c) q i))) (same_or_opposite l x e),
  variables-distinct c d.1 (λ (l, i, j). n (l, inr i, inr j)),
)

pub clause-short : (c : Clause) (n : ℕ) → IsDistinct c → (IsTautology c → ⊥) → ((l : Literal) → l ∈ c → variable_of l < n) → length c ≤ n
clause-short c n d o f =
    let a = distinct-below (map variable_of c) n (variables-distinct c d o) (λ v h. let (l, i, e) = of-variable c v h in subst (λ x. x < n) e (f l i)) in
    let b = length-map c variable_of in
    omega (arith, a, b)
