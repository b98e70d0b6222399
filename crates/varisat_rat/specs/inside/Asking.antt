-- What is kept from call to call of what propagation came to, and what questions find.
use Rattle.std.specs.Prelude.{◌≡◌, ◌≢◌, List, [], ◌++◌, ◌⊎◌, Bool, true, not, IsTrue, ◌↔◌}
use Rattle.varisat_theory.specs.promises.Membership.{◌∈◌}
use Rattle.varisat_theory.specs.promises.Literals.{Literal, Clause, opposite, IsUnit}
use Rattle.varisat_theory.specs.promises.Propagation.{Conflicts, HasClash, IsSaturated}
use Rattle.varisat_present.specs.Knowing.{AreImplied}

-- what is kept from call to call: literals that P alone implies, which propagation over P has come to the end with where they are saturated
pub record Keeps (is_saturated : Bool) (P : List Clause) (known : List Literal) : Type 0 where
  pub no_clash : HasClash known → ⊥
  pub implied : AreImplied P [] known
  pub saturated : is_saturated ≡ true → IsSaturated P known

-- propagation has come to its end, or else conflicts
pub record IsPropagatedTo (P : List Clause) (found : Bool) (known : List Literal) : Type 0 where
  pub keeps : Keeps (not found) P known
  pub right : IsTrue found ↔ Conflicts P []

-- The question whether propagation from the base conflicts: the known literals from before are the first ones still.
pub record Asks (P : List Clause) (old base : List Literal) (found : Bool) (new : List Literal) : Type 0 where
  pub more : List Literal
  pub joined : new ≡ old ++ more
  pub right : IsTrue found ↔ Conflicts P base

-- The same, where a conflict may be overlooked.
pub record Sees (P : List Clause) (old base : List Literal) (seen : Bool) (new : List Literal) : Type 0 where
  pub more : List Literal
  pub joined : new ≡ old ++ more
  pub right : seen ≡ true → Conflicts P base

-- The clause may leave P without a change to what is implied: two different literals of it are not false, or it leaves one that is a clause of P.
abbrev pub IsSpare : List Clause → List Literal → Clause → Type 0
IsSpare P known c =
    ((l m : Literal) × (l ∈ c) × (m ∈ c) × (l ≢ m) × (opposite l ∈ known → ⊥) × (opposite m ∈ known → ⊥))
    ⊎ ((l : Literal) × (d : Clause) × (l ∈ c) × (opposite l ∈ known → ⊥) × (d ∈ P) × IsUnit l d)
