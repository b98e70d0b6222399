-- What was eliminated from clauses that go on growing, and how models come back.
use Rattle.std.specs.Prelude.{◌≡◌, ◌⊎◌, ℕ, ◌<◌, Bool, false, List, [], ◌∷◌, ◌++◌, length, slice_index_or}
use Rattle.varisat_theory.specs.promises.Membership.{◌∈◌, ◌⊆◌}
use Rattle.varisat_theory.specs.promises.Literals.{Literal, Clause, Assignment, variable_of, SatisfiesAll}
use Rattle.varisat_formula.specs.promises.Values.{assignment_of}
use Rattle.varisat_rules.specs.promises.Leading.{HasVariablesOf}
use Rattle.varisat_rules.specs.promises.Stacks.{extended, KeepsFrozen}
use Rattle.varisat_incremental.specs.Flags.{IsFlagged, AreFlagged, AreClear, AreAmong, AllFlagged, AllClear}

-- The reconstruction stack; the variables whose clauses it has, and those that may not be eliminated, by flags.
pub record Reconstruction : Type 0 where
  pub stack : List Clause
  pub eliminated : List Bool
  pub frozen : List Bool

-- nothing was taken yet
abbrev pub no_clauses : Reconstruction
no_clauses = record { stack = []; eliminated = []; frozen = [] }

-- no extension changes the value of a variable that is not flagged
abbrev pub ChangesFlagged : List Bool → List Clause → Type 0
ChangesFlagged flags stack =
    (vs : List Bool) (v : ℕ) → (IsFlagged flags v → ⊥) →
    slice_index_or (extended stack vs) v false ≡ slice_index_or vs v false

-- or of a literal of the list
abbrev pub KeepsValues : List Literal → List Clause → Type 0
KeepsValues ls stack =
    (vs : List Bool) (l : Literal) → l ∈ ls →
    slice_index_or (extended stack vs) (variable_of l) false ≡ slice_index_or vs (variable_of l) false

-- there are values for all variables of the clauses
abbrev pub HaveValues : List Clause → List Bool → Type 0
HaveValues P vs = (c : Clause) (l : Literal) → c ∈ P → l ∈ c → variable_of l < length vs

-- Values that satisfy the clauses Q are extended to ones that satisfy P.
abbrev pub Extends : List Clause → List Clause → List Clause → Type 0
Extends stack Q P =
    (vs : List Bool) → HaveValues P vs → SatisfiesAll (assignment_of vs) Q →
    SatisfiesAll (assignment_of (extended stack vs)) P

-- The clauses P were taken, and Q were returned for them.
pub record HasTaken (P Q : List Clause) (r : Reconstruction) : Type 0 where
  -- what satisfies P satisfies Q, and what was saved
  pub keeps : (a : Assignment) → SatisfiesAll a P → SatisfiesAll a Q
  pub implied : (a : Assignment) → SatisfiesAll a P → SatisfiesAll a r.stack
  pub extends : Extends r.stack Q P
  pub changes : ChangesFlagged r.eliminated r.stack
  -- no variable of Q may be eliminated later
  pub frozen : AllFlagged r.frozen Q
  -- no variable is new
  pub named : HasVariablesOf P Q
  pub saved : HasVariablesOf P r.stack

-- What it is to take the clauses F, and the literals A that are to be assumed: the clauses G are returned. Whatever
-- assumptions come next, no extension changes the values of these until more is taken.
abbrev pub Takes : List Clause → List Literal → List Clause → Reconstruction → Reconstruction → Type 0
Takes F A G r s =
    (P Q : List Clause) → HasTaken P Q r → HasTaken (P ++ F) (Q ++ G) s × KeepsValues A s.stack

-- Some clauses of S were dropped to leave K, and each is one of R.
abbrev pub Drops : List Clause → List Clause → List Clause → Type 0
Drops R [] [] = Unit {0}
Drops R [] (k ∷ K) = ⊥
Drops R (c ∷ S) [] = (c ∈ R) × Drops R S []
Drops R (c ∷ S) (k ∷ K) = ((c ≡ k) × Drops R S K) ⊎ ((c ∈ R) × Drops R S (k ∷ K))

-- the clause's first literal is of a flagged variable, if it has one
abbrev pub IsLedBy : List Bool → Clause → Type 0
IsLedBy flags [] = Unit {0}
IsLedBy flags (l ∷ c) = IsFlagged flags (variable_of l)

-- the first literal of each clause is of a flagged variable
abbrev pub AreLedBy : List Bool → List Clause → Type 0
AreLedBy flags K = (l : Literal) (c : Clause) → (l ∷ c) ∈ K → IsFlagged flags (variable_of l)

-- Of the stack S the clauses K are left; the others were put behind those that were restored before, and the flags of
-- their variables were taken.
pub record RestoresSome (S : List Clause) (flags : List Bool) (before : List Clause) (K : List Clause)
    (left : List Bool) (after : List Clause) : Type 0 where
  pub fewer : AreAmong left flags
  pub more : before ⊆ after
  pub from : (c : Clause) → c ∈ after → (c ∈ before) ⊎ (c ∈ S)
  pub drops : Drops after S K
  pub clear : AllClear flags before → AllClear left after

-- The same of what was eliminated.
pub record Restores (r : Reconstruction) (before : List Clause) (s : Reconstruction) (after : List Clause) : Type 0 where
  pub some : RestoresSome r.stack r.eliminated before s.stack s.eliminated after
  pub frozen : s.frozen ≡ r.frozen

-- The clauses R were restored, so that neither F nor A names an eliminated variable, and A is frozen.
pub record BringsBack (F : List Clause) (A : List Literal) (R : List Clause) (r s : Reconstruction) : Type 0 where
  pub taken : (P Q : List Clause) → HasTaken P Q r → HasTaken P (Q ++ R) s
  pub clear : AllClear s.eliminated F
  pub apart : AreClear s.eliminated A
  pub held : AreFlagged s.frozen A

-- What is left of the clauses F is G, and what was saved S.
pub record IsReduced (F G S : List Clause) : Type 0 where
  pub keeps : (a : Assignment) → SatisfiesAll a F → SatisfiesAll a G
  pub implied : (a : Assignment) → SatisfiesAll a F → SatisfiesAll a S
  pub extends : Extends S G F
  pub named : HasVariablesOf F G
  pub saved : HasVariablesOf F S

-- What was saved is put on the stack, and flagged.
pub record Saves (S : List Clause) (r s : Reconstruction) : Type 0 where
  pub stack : s.stack ≡ r.stack ++ S
  pub frozen : s.frozen ≡ r.frozen
  pub more : AreAmong r.eliminated s.eliminated
  pub led : AreLedBy s.eliminated S

-- The clauses F are reduced to G.
abbrev pub Reduces : List Clause → List Clause → Reconstruction → Reconstruction → Type 0
Reduces F G r s = (S : List Clause) × IsReduced F G S × KeepsFrozen r.frozen S × Saves S r s

-- The clauses F, which name no eliminated variable, are taken, and G is what is left of them.
pub record TakesRest (F G : List Clause) (r s : Reconstruction) : Type 0 where
  pub taken : (P Q : List Clause) → HasTaken P Q r → AllClear r.eliminated F → HasTaken (P ++ F) (Q ++ G) s
  pub keeps : (P Q : List Clause) (A : List Literal) → HasTaken P Q r → AreFlagged r.frozen A →
      AreClear r.eliminated A → KeepsValues A s.stack
