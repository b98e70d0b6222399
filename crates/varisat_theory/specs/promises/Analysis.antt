-- What conflict analysis finds: which literals are implied by others, and which ones it reaches.
use Rattle.std.specs.Prelude.{◌≢◌, ℕ, ◌<◌, List, [], ◌⊎◌, length, get_or, take}
use Rattle.varisat_theory.specs.promises.Membership.{◌∈◌}
use Rattle.varisat_theory.specs.promises.Literals.{Literal, Clause, opposite}
use Rattle.varisat_theory.specs.promises.Propagation.{LeavesOnly}

-- The literal is known, or it has a reason: a clause of P that holds it and whose other literals are false by implied ones.
pub data Implied (P : List Clause) (known : List Literal) : Literal → Type 0 where
  Known : {l : Literal} → l ∈ known → Implied P known l
  ByReason : {l : Literal} (c : Clause) → c ∈ P → l ∈ c →
      ((m : Literal) → m ∈ c → m ≢ l → Implied P known (opposite m)) → Implied P known l

-- A trail, oldest literal first: each one is of the base, or all other literals of some clause of P that holds it are false by earlier ones.
abbrev pub IsTrail : List Clause → List Literal → List Literal → Type 0
IsTrail P base trail =
    (k : ℕ) → k < length trail →
    (get_or trail k 0 ∈ base)
    ⊎ ((c : Clause) × (c ∈ P) × (get_or trail k 0 ∈ c) × LeavesOnly (take k trail) c (get_or trail k 0))

-- A literal is reached where its opposite is in the clause that analysis starts from, or is another literal of the reason of a
-- reached literal that is resolved.
pub data Reached (start : Clause) (reason : Literal → Clause) (Resolved : Literal → Type 0) : Literal → Type 0 where
  AtStart : {l : Literal} → opposite l ∈ start → Reached start reason Resolved l
  InReason : {l : Literal} (k : Literal) → Reached start reason Resolved k → Resolved k → opposite l ∈ reason k →
      opposite l ≢ k →
      Reached start reason Resolved l

-- the reason of a resolved literal is a clause of P that holds it, and whose other literals are false by earlier places on the trail
abbrev pub HasEarlierReasons : List Clause → (Literal → Clause) → (Literal → Type 0) → (Literal → ℕ) → Type 0
HasEarlierReasons P reason Resolved place =
    (k : Literal) → Resolved k →
    (reason k ∈ P) × (k ∈ reason k) × ((m : Literal) → m ∈ reason k → m ≢ k → place (opposite m) < place k)

-- each reached literal is of the base, is resolved, or is implied by P alone
abbrev pub EndsIn : List Clause → Clause → (Literal → Clause) → (Literal → Type 0) → List Literal → Type 0
EndsIn P start reason Resolved base =
    (l : Literal) → Reached start reason Resolved l → (l ∈ base) ⊎ (Resolved l ⊎ Implied P [] l)

-- what minimization marks: the literal's opposite is kept, it is implied by P alone, or it has a reason whose other literals are false by earlier marked ones
abbrev pub MarksAreReasoned : List Clause → Clause → (Literal → Type 0) → (Literal → Clause) → (Literal → ℕ) → Type 0
MarksAreReasoned P kept Marked reason place =
    (x : Literal) → Marked x → (opposite x ∈ kept)
    ⊎ (Implied P [] x
    ⊎
    ((reason x ∈ P) × (x ∈ reason x)
    × ((m : Literal) → m ∈ reason x → m ≢ x → (place (opposite m) < place x) × Marked (opposite m))))
