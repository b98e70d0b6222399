-- What questions of RAT find, and what becomes of deletions that may be passed over.
use Rattle.std.specs.Prelude.{◌≡◌, ◌⊎◌, ℕ, Bool, true, false, List, [], ◌++◌, Option, Some, Vec, ◌<◌, ◌≤◌, length, take, slice_index_or}
use Rattle.varisat_theory.specs.promises.Membership.{◌∈◌, SameSet}
use Rattle.varisat_theory.specs.promises.Literals.{Literal, Clause, opposite, opposites}
use Rattle.varisat_theory.specs.promises.Propagation.{Conflicts}
use Rattle.varisat_theory.specs.promises.Derivations.{TakesOut}
use Rattle.varisat_theory.specs.promises.Analysis.{Implied}
use Rattle.varisat_theory.specs.promises.Rat.{but_for, ResolventsFollow}
use Rattle.varisat_plain.specs.promises.Checking.{IsAbsent}
use Rattle.varisat_rat.specs.declared.present.Deletion.{Deletion}
use Rattle.varisat_rat.specs.declared.present.Deletion.TheVariants.{Taken, Kept, Absent}
use Rattle.varisat_present.specs.Places.{present, present_at, place_limit}

-- all literals of the clause but one are implied to be false
abbrev pub IsForced : List Clause → Clause → Type 0
IsForced P c = (l : Literal) × (l ∈ c) × ((m : Literal) → m ∈ c → (m ≡ l) ⊎ Implied P [] (opposite m))

-- the clause was taken out, and is not forced; or it is there, and forced, and stays; or it is not there
abbrev pub IsDeletionOf : List Clause → Clause → Deletion → List Clause → Type 0
IsDeletionOf P c Taken Q = TakesOut P c Q × (IsForced P c → ⊥)
IsDeletionOf P c Kept Q = ((d : Clause) × (d ∈ P) × SameSet d c) × IsForced P c × (Q ≡ P)
IsDeletionOf P c Absent Q = IsAbsent P c × (Q ≡ P)

-- RAT on one of its literals
abbrev pub IsRatOnSome : List Clause → Clause → Type 0
IsRatOnSome P c = (l : Literal) × (l ∈ c) × ResolventsFollow P c l

-- The place is that of the first literal of the clause on which it is RAT.
pub record IsPivotPlace (P : List Clause) (c : Clause) (place : ℕ) : Type 0 where
  pub inside : place < length c
  pub rat : ResolventsFollow P c (slice_index_or c place 0)
  pub first : (l : Literal) → l ∈ take place c → ResolventsFollow P c l → ⊥

-- propagation from the base conflicts, with the other literals of the clause taken as false
abbrev pub ConflictsBut : List Clause → List Literal → Literal → Clause → Type 0
ConflictsBut P base l d = Conflicts P (base ++ opposites (but_for l d))

-- so it is for each of these clauses that has the literal
abbrev pub AllConflict : List Clause → List Clause → List Literal → Literal → Type 0
AllConflict P cs base l = (d : Clause) → d ∈ cs → l ∈ d → ConflictsBut P base l d

-- so it is for the clause at the place, if that has the literal; the known literals from before are the first ones still
pub record IsResolventFound {A : Type 0} (places : List (Option (Vec ℕ A))) (place : ℕ) (base : List Literal)
    (l : Literal)
    (old : List Literal) (found : Bool) (new : List Literal) : Type 0 where
  pub more : List Literal
  pub joined : new ≡ old ++ more
  pub yes : found ≡ true → (d : Clause) → present_at places place ≡ Some d → l ∈ d →
      ConflictsBut (present places) base l d
  pub no : found ≡ false →
      (d : Clause) × (present_at places place ≡ Some d) × (l ∈ d) × (ConflictsBut (present places) base l d → ⊥)

-- for a literal that no clause has
abbrev pub unseen : ℕ
unseen = 0xffff_ffff_ffff_ffff

-- no clause before the place that the list has for a literal below the limit has that literal
abbrev pub AreFirst : {A : Type 0} → List (Option (Vec ℕ A)) → List ℕ → Type 0
AreFirst places firsts = (i : ℕ) (c : Clause) (l : Literal) → present_at places i ≡ Some c → l ∈ c → l < place_limit →
    slice_index_or firsts l unseen ≤ i

-- places become less or stay
abbrev pub AreLowered : List ℕ → List ℕ → Type 0
AreLowered old new = (l : Literal) → slice_index_or new l unseen ≤ slice_index_or old l unseen

-- each of these literals is noted at this place, or at an earlier one
abbrev pub AreNoted : List Literal → ℕ → List ℕ → Type 0
AreNoted literals place firsts = (l : Literal) → l ∈ literals → l < place_limit → slice_index_or firsts l unseen ≤ place
