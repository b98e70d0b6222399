-- What propagation makes of the known literals.
use Rattle.std.specs.Prelude.{◌≡◌, List, [], ◌∷◌, ◌++◌, ◌⊎◌, Bool, true, false}
use Rattle.varisat_theory.specs.promises.Membership.{◌∈◌, ◌⊆◌}
use Rattle.varisat_theory.specs.promises.Literals.{Literal, Clause, opposite}
use Rattle.varisat_theory.specs.promises.Propagation.{Conflicts, IsFalse, LeavesOnly, HasClash, IsComplete, IsSaturated}
use Rattle.varisat_theory.specs.promises.Analysis.{Implied}

-- each literal is implied by P and the base
abbrev pub AreImplied : List Clause → List Literal → List Literal → Type 0
AreImplied P base known = (l : Literal) → l ∈ known → Implied P base l

-- literals joined that P implies, and no two clash
pub record GrowsKnown (P : List Clause) (old new : List Literal) : Type 0 where
  pub more : List Literal
  pub joined : new ≡ old ++ more
  pub no_clash : HasClash new → ⊥
  pub implied : (base : List Literal) → AreImplied P base old → AreImplied P base new

-- a conflict was found
pub record FindsConflict (P : List Clause) (old : List Literal) (found : Bool) (new : List Literal) : Type 0 where
  pub grows : GrowsKnown P old new
  pub conflict : found ≡ true → Conflicts P new

-- the same, or else propagation has come to its end
pub record Saturates (P : List Clause) (old : List Literal) (found : Bool) (new : List Literal) : Type 0 where
  pub finds : FindsConflict P old found new
  pub saturated : found ≡ false → IsSaturated P new

-- the base joins the known literals, or clashes with them or in itself
pub record TakesBase (old base : List Literal) (clashes : Bool) (new : List Literal) : Type 0 where
  pub more : List Literal
  pub joined : new ≡ old ++ more
  pub no_clash : HasClash new → ⊥
  pub from : (l : Literal) → l ∈ new → (l ∈ old) ⊎ (l ∈ base)
  pub all : clashes ≡ false → base ⊆ new
  pub clash : clashes ≡ true → (l : Literal) × (l ∈ base) × (opposite l ∈ new)

-- a clause was passed: it is false, nothing is to be propagated from it, or the literal that it leaves joined
abbrev pub IsPassed : Clause → List Literal → Bool → List Literal → Type 0
IsPassed c old true new = (new ≡ old) × IsFalse old c
IsPassed c old false new =
    ((new ≡ old) × IsComplete (c ∷ []) old)
    ⊎
    ((l : Literal) × (l ∈ c) × LeavesOnly old c l × (opposite l ∈ old → ⊥) × (l ∈ old → ⊥)
    × (new ≡ old ++ (l ∷ [])))

-- a literal of a clause joined that was not known
abbrev pub Joins : List Clause → List Literal → List Literal → Type 0
Joins P old new = (c : Clause) × (l : Literal) × (c ∈ P) × (l ∈ c) × (l ∈ old → ⊥) × (l ∈ new)

-- A pass over all clauses: with no conflict, nothing was left to propagate, or a literal joined.
pub record Passes (P : List Clause) (old : List Literal) (found : Bool) (new : List Literal) : Type 0 where
  pub finds : FindsConflict P old found new
  pub rest : found ≡ false → ((new ≡ old) × IsSaturated P new) ⊎ Joins P old new
