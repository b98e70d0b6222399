-- What two places say of one another.
use Rattle.std.proofs.Common.{◌≡◌, ℕ, subst}
use Rattle.varisat_theory.specs.promises.Literals.{Clause}
use Rattle.varisat_rules.specs.declared.resolve.Relation.{Relation}
use Rattle.varisat_rules.specs.declared.resolve.Relation.TheVariants.{Nothing, Subsumes, Strengthens}
use Rattle.varisat_database.specs.Databases.{DatabaseState, clause_at, IsLive}
use Rattle.varisat_rules.specs.inside.Resolving.{Relates, Compares}

pub compares : (s : DatabaseState) (j i : ℕ) (c d : Clause) (r : Relation) → c ≡ clause_at s j → d ≡ clause_at s i → IsLive s j → IsLive s i → (j ≡ i → ⊥) →
    Relates c d r → Compares s j i r
compares s j i c d r e f lj li n w = go r (subst (λ (x : Clause). Relates (clause_at s j) x r) f (subst (λ (x : Clause). Relates x d r) e w))
  where
    go : (q : Relation) → Relates (clause_at s j) (clause_at s i) q → Compares s j i q
    go Nothing v = tt
    go Subsumes v = (lj, n, v)
    go (Strengthens l) v = (lj, li, v.0, v.1)
