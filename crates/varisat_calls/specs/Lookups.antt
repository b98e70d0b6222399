-- The literals of a model or a core that are kept, and what is returned of one of them.
use Rattle.std.specs.Prelude.{◌≡◌, ℕ, ℤ, pos, Bool, Some, None, List, Ok}
use Rattle.varisat_theory.specs.promises.Membership.{◌∈◌}
use Rattle.varisat_theory.specs.promises.Literals.{Literal, opposite}
use Rattle.varisat_literals.specs.promises.Numbers.{literal_numbered}
use Rattle.varisat_client.specs.inside.LiteralSets.{Has, IsSetOf}
use Rattle.varisat_solver.specs.promises.Summaries.{Summary}
use Rattle.varisat_solver.specs.promises.Represented.{LeadsRepresented}
use Rattle.varisat_calls.specs.Callers.{Caller, IsWrongCall, ReturnsModel, ReturnsCore, ReturnsSome}
use Rattle.varisat_calls.specs.declared.lookups.Kept.{Kept}
use Rattle.varisat_calls.specs.declared.lookups.Kept.TheVariants as kept

-- the list is the one that `model` returns, or there is one, or none
abbrev pub IsReturnedModel : Summary → List Literal → Type 0
IsReturnedModel g m = LeadsRepresented g (λ s t. ReturnsModel s (Ok (Some m)) t) g

abbrev pub GivesModel : Summary → Type 0
GivesModel g = LeadsRepresented g (ReturnsSome ReturnsModel) g

abbrev pub GivesNoModel : Summary → Type 0
GivesNoModel g = LeadsRepresented g (λ s t. ReturnsModel s (Ok None) t) g

-- the list is the one that `failed_core` returns, or there is one, or none
abbrev pub IsCore : Summary → List Literal → Type 0
IsCore g m = LeadsRepresented g (λ s t. ReturnsCore s (Ok (Some m)) t) g

abbrev pub GivesCore : Summary → Type 0
GivesCore g = LeadsRepresented g (ReturnsSome ReturnsCore) g

abbrev pub GivesNoCore : Summary → Type 0
GivesNoCore g = LeadsRepresented g (λ s t. ReturnsCore s (Ok None) t) g

-- exactly the literals of the model, or of the core, that the solver returns have their flags set
abbrev pub AreModelFlags : Summary → List Bool → Type 0
AreModelFlags g flags = (m : List Literal) × IsReturnedModel g m × IsSetOf m flags

abbrev pub AreCoreFlags : Summary → List Bool → Type 0
AreCoreFlags g flags = (m : List Literal) × IsCore g m × IsSetOf m flags

-- which list has its literals kept, and these as a set
pub record Lookups : Type 0 where
  pub kept : Kept
  pub literals : List Bool

-- what is kept is what the solver returns
pub record IsCurrent (c : Lookups) (solver : Summary) : Type 0 where
  pub model : c.kept ≡ kept.Model → AreModelFlags solver c.literals
  pub core : c.kept ≡ kept.Core → AreCoreFlags solver c.literals

-- 1: the literal is in the set; 0: its opposite is; 15: neither is
pub data IsValueIn (flags : List Bool) (l : Literal) (n : ℕ) : Type 0 where
  True : n ≡ 1 → Has flags l → IsValueIn flags l n
  False : n ≡ 0 → Has flags (opposite l) → IsValueIn flags l n
  Unknown : n ≡ 15 → (Has flags l → ⊥) → (Has flags (opposite l) → ⊥) → IsValueIn flags l n

-- 1: the literal is in the set; 0: it is not
pub data IsMember (flags : List Bool) (l : Literal) (n : ℕ) : Type 0 where
  Yes : n ≡ 1 → Has flags l → IsMember flags l n
  No : n ≡ 0 → (Has flags l → ⊥) → IsMember flags l n

-- What a look-up answers that finds no list: the number is 0; or there is none; or there is one, whose literals found
-- no memory, and another look-up may be made.
pub data FindsNone (some none : Summary → Type 0) (number : ℤ) (g : Caller) (n : ℕ) (h : Caller) : Type 0 where
  Zero : number ≡ pos 0 → IsWrongCall g n h → FindsNone some none number g n h
  NoList : n ≡ 15 → none g.solver → h ≡ g → FindsNone some none number g n h
  NoRoom : n ≡ 3 → some g.solver → h ≡ g → FindsNone some none number g n h

-- Whether the literal of the number is true in the model: 1 and 0, and 15 where the model has no such variable.
pub data LooksUpValue (number : ℤ) (g : Caller) (n : ℕ) (h : Caller) : Type 0 where
  True : (m : List Literal) → IsReturnedModel g.solver m → literal_numbered number ∈ m → n ≡ 1 → h ≡ g →
      LooksUpValue number g n h
  False : (m : List Literal) → IsReturnedModel g.solver m → opposite (literal_numbered number) ∈ m → n ≡ 0 → h ≡ g →
      LooksUpValue number g n h
  Unknown : (m : List Literal) → IsReturnedModel g.solver m → (literal_numbered number ∈ m → ⊥) →
      (opposite (literal_numbered number) ∈ m → ⊥) →
      n ≡ 15 → h ≡ g → LooksUpValue number g n h
  Unfound : FindsNone GivesModel GivesNoModel number g n h → LooksUpValue number g n h

-- Whether the literal of the number is one of the core: 1 and 0.
pub data LooksUpFailed (number : ℤ) (g : Caller) (n : ℕ) (h : Caller) : Type 0 where
  Failed : (m : List Literal) → IsCore g.solver m → literal_numbered number ∈ m → n ≡ 1 → h ≡ g →
      LooksUpFailed number g n h
  Unfailed : (m : List Literal) → IsCore g.solver m → (literal_numbered number ∈ m → ⊥) → n ≡ 0 → h ≡ g →
      LooksUpFailed number g n h
  Unfound : FindsNone GivesCore GivesNoCore number g n h → LooksUpFailed number g n h
