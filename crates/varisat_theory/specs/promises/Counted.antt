-- Derivations that count what they add.
use Rattle.std.specs.Prelude.{◌≡◌, ℕ, zero, suc, List, [], ◌∷◌, ◌++◌, ◌⊎◌}
use Rattle.varisat_theory.specs.promises.Membership.{◌∈◌, ◌⊆◌, SameSet}
use Rattle.varisat_theory.specs.promises.Literals.{Literal, Clause, IsUnit}
use Rattle.varisat_theory.specs.promises.Propagation.{Follows}
use Rattle.varisat_theory.specs.promises.Derivations.{Line, Add, Delete, TakesOut, IsPresentAfter}
use Rattle.varisat_theory.specs.promises.Searches.{IsTautology}

-- as a set the clause is one literal, or a part of a clause of P
abbrev pub IsMinor : List Clause → Clause → Type 0
IsMinor P c = ((l : Literal) × IsUnit l c) ⊎ ((d : Clause) × (d ∈ P) × (c ⊆ d))

-- it is no tautology, and no clause of P is a part of it
abbrev pub IsNew : List Clause → Clause → Type 0
IsNew P c = (IsTautology c → ⊥) × ((d : Clause) → d ∈ P → d ⊆ c → ⊥)

-- a clause of P is equal to it as a set
abbrev pub IsAmong : List Clause → Clause → Type 0
IsAmong P c = (d : Clause) × (d ∈ P) × SameSet d c

-- As `Derives`, where at most n of the added clauses are neither a single literal nor part of a clause that is present
-- just before. Only these count: a solver learns one such clause a step, and the others are what it makes of known ones.
abbrev pub DerivesBy : ℕ → List Clause → List Line → List Clause → Type 0
DerivesBy n P [] Q = P ≡ Q
DerivesBy n P (Add c ∷ lines) Q =
    Follows P c
    ×
    ((IsMinor P c × DerivesBy n (P ++ c ∷ []) lines Q)
    ⊎ ((m : ℕ) × (n ≡ suc m) × DerivesBy m (P ++ c ∷ []) lines Q))
DerivesBy n P (Delete c ∷ lines) Q = (R : List Clause) × TakesOut P c R × DerivesBy n R lines Q

-- A line adds a clause that is new to what is present just before, and is still there after all the lines.
pub record AddsNew (P : List Clause) (lines : List Line) : Type 0 where
  pub front : List Line
  pub clause : Clause
  pub back : List Line
  pub before : List Clause
  pub after : List Clause
  pub split : lines ≡ front ++ (Add clause ∷ back)
  pub is_before : IsPresentAfter P front before
  pub is_new : IsNew before clause
  pub is_after : IsPresentAfter (before ++ clause ∷ []) back after
  pub stays : IsAmong after clause

-- The lines are k parts in turn, each of which adds such a clause that is still there as the part ends.
abbrev pub AddsManyNew : ℕ → List Clause → List Line → Type 0
AddsManyNew zero P lines = Unit {0}
AddsManyNew (suc k) P lines =
    (first last : List Line) × (Q : List Clause) × (lines ≡ first ++ last) × IsPresentAfter P first Q
    × AddsManyNew k P first × AddsNew Q last

-- no line deletes a clause
abbrev pub DeletesNone : List Line → Type 0
DeletesNone [] = Unit {0}
DeletesNone (Add c ∷ lines) = DeletesNone lines
DeletesNone (Delete c ∷ lines) = ⊥

-- how many lines add a clause
abbrev pub added : List Line → ℕ
added [] = 0
added (Add c ∷ lines) = suc (added lines)
added (Delete c ∷ lines) = added lines
