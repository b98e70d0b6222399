-- The laws of steps, calls and loading that the functions of `laws/steps` state.
use Rattle.std.specs.Prelude.{◌≡◌, ◌≢◌, ℕ, zero, suc, ◌+◌, ◌<◌, ◌≤◌, length, Bool, true, false, List, [], ◌∷◌, ◌++◌, ◌⊎◌}
use Rattle.varisat_theory.specs.promises.Membership.{◌∈◌, ◌⊆◌, SameSet}
use Rattle.varisat_theory.specs.promises.Literals.{Literal, Clause, Assignment, variable_of, opposite, value, IsUnit, SatisfiesAll, MakesTrue, IsSatisfiable, IsSatisfiableWith}
use Rattle.varisat_theory.specs.promises.Propagation.{Conflicts, Follows, IsFalse, HasFalse, LeavesOnly}
use Rattle.varisat_theory.specs.promises.Derivations.{Line, Add, Delete, Derives, Refutes}
use Rattle.varisat_theory.specs.promises.Held.{SameClauses, mentions, without}
use Rattle.varisat_theory.specs.promises.Analysis.{Implied}
use Rattle.varisat_theory.specs.promises.Renaming.{KeepsOpposites}
use Rattle.varisat_theory.specs.promises.Counted.{IsNew, DerivesBy, AddsManyNew, DeletesNone, added}
use Rattle.varisat_theory.specs.promises.Searches.{KeptClause, Search, clauses_of, IsTautology, IsDischarged, Fits, Covers, CoversBy, IsLiteralOf}
use Rattle.varisat_theory.specs.inside.Outcomes.{SearchOutcome, Unknown, Sat, Unsat, UnsatUnder, Proves, Steps, Loads, IsContradicted, AccountsFor, MakesSteps}

-- 1. How parts join.

-- two parts in turn are one, whose lines are theirs in turn, and what counts adds up
abbrev pub PartsJoin : Type 0
PartsJoin = (m n : ℕ) (s t u : Search) (first second : List Line) → Proves m s t first → Proves n t u second →
    Proves (m + n) s u (first ++ second)

-- parts of which nothing counts may come before a step, and such as delete nothing after one that goes on
abbrev pub PartsJoinStep : Type 0
PartsJoinStep =
    ((s t u : Search) (v : SearchOutcome) (first second : List Line) → Proves 0 s t first → Steps t u v second →
    Steps s u v (first ++ second))
    × ((s t u : Search) (first second : List Line) → Steps s t Unknown first → Proves 0 t u second →
    DeletesNone second →
    Steps s u Unknown (first ++ second))

-- A step that goes on is a part that counts once, and adds a clause at least; so k steps of a call count k times at most and add k clauses at least.
abbrev pub StepIsPart : Type 0
StepIsPart =
    ((s t : Search) (lines : List Line) → Steps s t Unknown lines → Proves 1 s t lines)
    × ((s t : Search) (lines : List Line) (held : List Clause) → Steps s t Unknown lines → Fits held s →
    1 ≤ added lines)
    × ((first second : List Line) → added (first ++ second) ≡ added first + added second)

-- Kept clauses moved, their literals too, and more literals of the search are fixed, or fewer proved.
pub record OnlyMoves (s t : Search) : Type 0 where
  pub clauses : SameClauses (clauses_of s.kept) (clauses_of t.kept)
  pub unlearned : (k : KeptClause) → k ∈ s.kept → k.learned ≡ false →
      (j : KeptClause) × (j ∈ t.kept) × (j.learned ≡ false) × (j.clause ⊆ k.clause)
  pub fixed : s.fixed ⊆ t.fixed
  pub proved : t.proved ⊆ s.proved
  pub within : (l : Literal) → l ∈ t.fixed → IsLiteralOf s l

-- that takes no line
abbrev pub MovesProve : Type 0
MovesProve = (s t : Search) → OnlyMoves s t → Proves 0 s t []

-- 2. Parts of a step.

-- A literal that is true at level 0 is proved by its reason, where the reason's others are proved false.
abbrev pub UnitIsProved : Type 0
UnitIsProved =
    (s : Search) (l : Literal) (k : KeptClause) → l ∈ s.fixed → k ∈ s.kept → l ∈ k.clause →
    LeavesOnly s.proved k.clause l →
    Proves 0 s (record s { proved = s.proved ++ l ∷ [] }) (Add (l ∷ []) ∷ [])

-- the unit clauses of the literals, one line each
abbrev pub unit_lines : List Literal → List Line
unit_lines [] = []
unit_lines (l ∷ ls) = Add (l ∷ []) ∷ unit_lines ls

-- So are several, in an order in which each has a reason whose others are proved false before it.
abbrev pub UnitsAreProved : Type 0
UnitsAreProved =
    (s : Search) (ls : List Literal) →
    ((front back : List Literal) (l : Literal) → ls ≡ front ++ (l ∷ back) → (l ∈ s.fixed)
    × ((k : KeptClause) × (k ∈ s.kept) × (l ∈ k.clause) × LeavesOnly (s.proved ++ front) k.clause l)) →
    Proves 0 s (record s { proved = s.proved ++ ls }) (unit_lines ls)

-- a kept clause with a literal that is true at level 0 is deleted
abbrev pub SatisfiedIsDeleted : Type 0
SatisfiedIsDeleted =
    (s : Search) (front back : List KeptClause) (k : KeptClause) (c : Clause) (l : Literal) →
    s.kept ≡ front ++ (k ∷ back) → SameSet k.clause c →
    l ∈ k.clause → l ∈ s.fixed → Proves 0 s (record s { kept = front ++ back }) (Delete c ∷ [])

-- a learned clause is deleted
abbrev pub LearnedIsDeleted : Type 0
LearnedIsDeleted =
    (s : Search) (front back : List KeptClause) (k : KeptClause) (c : Clause) → s.kept ≡ front ++ (k ∷ back) →
    SameSet k.clause c →
    k.learned ≡ true → Proves 0 s (record s { kept = front ++ back }) (Delete c ∷ [])

-- A kept clause loses literals that are proved false. It may cease to be a learned one, as it goes to the pairs, and never becomes one.
abbrev pub ClauseIsShortened : Type 0
ClauseIsShortened =
    (s : Search) (front back : List KeptClause) (k j : KeptClause) (c d : Clause) → s.kept ≡ front ++ (k ∷ back) →
    SameSet k.clause c →
    SameSet j.clause d → j.clause ⊆ k.clause →
    ((m : Literal) → m ∈ k.clause → (m ∈ j.clause) ⊎ (opposite m ∈ s.proved)) →
    (j.learned ≡ true → k.learned ≡ true) → Proves 0 s (record s { kept = front ++ (j ∷ back) }) (Add d ∷ Delete c ∷ [])

-- A variable that no kept clause mentions leaves the search; what is held loses the clauses that mention it, which is no line.
abbrev pub VariableIsRetired : Type 0
VariableIsRetired =
    (s t : Search) (v : ℕ) (held : List Clause) → t.kept ≡ s.kept →
    ((k : KeptClause) → k ∈ s.kept → mentions v k.clause ≡ false) →
    ((l : Literal) → l ∈ s.fixed → variable_of l ≢ v → l ∈ t.fixed) →
    ((l : Literal) → l ∈ t.proved → (l ∈ s.proved) × (variable_of l ≢ v)) →
    Fits held s → Fits (without v held) t

-- 3. How a step ends.

-- the clause follows from whatever fits
abbrev pub FollowsFrom : Search → Clause → Type 0
FollowsFrom s c = (held : List Clause) → Fits held s → Follows held c

-- no clause that is held with whatever fits is a part of it
abbrev pub IsNewTo : Search → Clause → Type 0
IsNewTo s c = (held : List Clause) → Fits held s → IsNew held c

-- The clause may be learned: it follows, it is new, and its literals are the search's.
pub record IsLearnable (s : Search) (c : Clause) : Type 0 where
  pub follows : FollowsFrom s c
  pub is_new : IsNewTo s c
  pub literals : (l : Literal) → l ∈ c → IsLiteralOf s l

-- Such a clause is learned and kept, or it is a unit that is true at level 0 from then on.
pub record ClauseIsLearned : Type 0 where
  pub kept : (s : Search) (c : Clause) (k : KeptClause) → SameSet k.clause c → IsLearnable s c →
      Steps s (record s { kept = s.kept ++ k ∷ [] }) Unknown (Add c ∷ [])
  pub unit : (s : Search) (c : Clause) (l : Literal) → IsUnit l c → IsLearnable s c →
      Steps s (record s { fixed = s.fixed ++ l ∷ []; proved = s.proved ++ l ∷ [] }) Unknown (Add c ∷ [])

-- No kept clause is a part of it, it is no tautology, and no literal of it is true at level 0.
pub record IsFresh (s : Search) (c : Clause) : Type 0 where
  pub kept : (k : KeptClause) → k ∈ s.kept → k.clause ⊆ c → ⊥
  pub tautology : IsTautology c → ⊥
  pub fixed : (l : Literal) → l ∈ c → l ∈ s.fixed → ⊥

-- such a clause is new
abbrev pub FreshIsNew : Type 0
FreshIsNew = (s : Search) (c : Clause) → IsFresh s c → IsNewTo s c

-- where a kept clause is false at level 0, and its literals are proved so, the empty clause is added
abbrev pub EmptyIsAdded : Type 0
EmptyIsAdded = (s t : Search) (k : KeptClause) → k ∈ s.kept → IsFalse s.proved k.clause → Steps s t Unsat (Add [] ∷ [])

-- so it is where it follows in another way, or the conflict alone ends the step
abbrev pub ContradictionIsFound : Type 0
ContradictionIsFound = (s t : Search) → FollowsFrom s [] → Steps s t Unsat [] × Steps s t Unsat (Add [] ∷ [])

-- each literal of the kept clauses is known or its opposite is, and none of the clauses is false
abbrev pub DecidesKept : Search → List Literal → Type 0
DecidesKept s known =
    (s.fixed ⊆ known) × (HasFalse (clauses_of s.kept) known → ⊥)
    × ((k : KeptClause) → k ∈ s.kept → (l : Literal) → l ∈ k.clause → (l ∈ known) ⊎ (opposite l ∈ known))

-- a total assignment under which no kept clause is false satisfies all accepted clauses, and ends the step
abbrev pub ModelIsFound : Type 0
ModelIsFound =
    ((s : Search) (known : List Literal) (a : Assignment) (P : List Clause) → DecidesKept s known → MakesTrue a known →
    Covers P s → SatisfiesAll a P)
    × ((s : Search) (known : List Literal) (a : Assignment) → DecidesKept s known → MakesTrue a known →
    Steps s s (Sat a) [])

-- so does a core with which whatever fits conflicts
abbrev pub CoreIsFound : Type 0
CoreIsFound = (s : Search) (core : List Literal) → ((held : List Clause) → Fits held s → Conflicts held core) →
    Steps s s (UnsatUnder core) []

-- 4. What loading does.

-- the clause is kept
abbrev pub LoadedIsKept : Type 0
LoadedIsKept =
    (s : Search) (c : Clause) (k : KeptClause) → SameSet k.clause c → k.learned ≡ false → (IsContradicted s c → ⊥) →
    Loads s (record s { kept = s.kept ++ k ∷ [] }) c Unknown []

-- a unit is true at level 0 from then on
abbrev pub LoadedIsUnit : Type 0
LoadedIsUnit =
    (s : Search) (c : Clause) (l : Literal) → IsUnit l c → (opposite l ∈ s.fixed → ⊥) →
    Loads s (record s { fixed = s.fixed ++ l ∷ []; proved = s.proved ++ l ∷ [] }) c Unknown []

-- a tautology, and a unit that is true at level 0, are held and no more
abbrev pub LoadedIsDischarged : Type 0
LoadedIsDischarged = (s : Search) (c : Clause) → IsDischarged s c → (IsContradicted s c → ⊥) → Loads s s c Unknown []

-- another clause with a literal that is true at level 0 is deleted at once
abbrev pub LoadedIsDeleted : Type 0
LoadedIsDeleted =
    (s : Search) (c d : Clause) → IsDischarged s c → (IsContradicted s c → ⊥) → SameSet d c →
    Loads s s c Unknown (Delete d ∷ [])

-- whatever fits implies the literals of level 0
abbrev pub IsGrounded : Search → Type 0
IsGrounded s = (held : List Clause) → Fits held s → (l : Literal) → l ∈ s.fixed → Implied held [] l

-- a contradicted clause needs no line
abbrev pub LoadedIsContradicted : Type 0
LoadedIsContradicted = (s t : Search) (c : Clause) → IsGrounded s → IsContradicted s c → Loads s t c Unsat []

-- parts of which nothing counts may come after loading, and before it such as write no line and leave the same fixed
abbrev pub PartsJoinLoad : Type 0
PartsJoinLoad =
    ((s t u : Search) (c : Clause) (v : SearchOutcome) (lines : List Line) → Proves 0 s t [] → s.fixed ⊆ t.fixed →
    t.fixed ⊆ s.fixed →
    Loads t u c v lines → Loads s u c v lines)
    × ((s t u : Search) (c : Clause) (lines more : List Line) → Loads s t c Unknown lines → Proves 0 t u more →
    Loads s u c Unknown (lines ++ more))

-- 5. What k steps give together.

-- no step is made yet
abbrev pub NoStepIsMade : Type 0
NoStepIsMade = (s : Search) → MakesSteps 0 s s Unknown []

-- one more step follows k that went on
abbrev pub StepIsMade : Type 0
StepIsMade =
    (k : ℕ) (s t u : Search) (v : SearchOutcome) (first second : List Line) → MakesSteps k s t Unknown first →
    Steps t u v second →
    MakesSteps (suc k) s u v (first ++ second)

-- many new clauses are many added ones
abbrev pub NewAreAdded : Type 0
NewAreAdded = (k : ℕ) (P : List Clause) (lines : List Line) → AddsManyNew k P lines → k ≤ added lines

-- the lines of k steps
abbrev pub joined : ℕ → (ℕ → List Line) → List Line
joined zero lines = []
joined (suc k) lines = joined k lines ++ lines k

-- steps that go on, one after another
abbrev pub StepsOfCall : Type 0
StepsOfCall =
    (k : ℕ) (s : ℕ → Search) (lines : ℕ → List Line) → ((i : ℕ) → i < k → Steps (s i) (s (suc i)) Unknown (lines i)) →
    MakesSteps k (s 0) (s k) Unknown (joined k lines)

-- Parts of which nothing counts may come before the steps, and after such as find an assignment. After such as go on come parts
-- that delete nothing.
abbrev pub PartsJoinSteps : Type 0
PartsJoinSteps =
    ((k : ℕ) (s t u : Search) (v : SearchOutcome) (first second : List Line) → Proves 0 s t first →
    MakesSteps k t u v second →
    MakesSteps k s u v (first ++ second))
    × ((k : ℕ) (s t u : Search) (first second : List Line) → MakesSteps k s t Unknown first →
    Proves 0 t u second → DeletesNone second → MakesSteps k s u Unknown (first ++ second))
    × ((k : ℕ) (s t u : Search) (found : Assignment) (first second : List Line) → MakesSteps k s t (Sat found) first →
    Proves 0 t u second →
    MakesSteps k s u (Sat found) (first ++ second))

-- the lines of steps that come to Unsat refute what is held
abbrev pub StepsRefute : Type 0
StepsRefute = (k : ℕ) (held : List Clause) (s t : Search) (lines : List Line) → Fits held s →
    MakesSteps k s t Unsat lines → Refutes held lines

-- 6. What follows for the accepted clauses.

-- the first search, which keeps nothing, stands for no clauses
abbrev pub FirstAccounts : Type 0
FirstAccounts = (s : Search) → s ≡ record { kept = []; fixed = []; proved = [] } → AccountsFor [] [] s Unknown

-- A part of a step keeps what a solver has of the accepted clauses.
abbrev pub PartAccounts : Type 0
PartAccounts =
    (n : ℕ) (P held : List Clause) (s t : Search) (lines : List Line) → AccountsFor P held s Unknown →
    Proves n s t lines → (after : List Clause)
    × DerivesBy n held lines after × AccountsFor P after t Unknown

-- So does a step.
abbrev pub StepAccounts : Type 0
StepAccounts =
    (P held : List Clause) (s t : Search) (v : SearchOutcome) (lines : List Line) → AccountsFor P held s Unknown →
    Steps s t v lines → (after : List Clause)
    × DerivesBy 1 held lines after × AccountsFor P after t v × (v ≡ Unknown → 1 ≤ added lines)

-- So do k steps.
abbrev pub StepsAccount : Type 0
StepsAccount =
    (k : ℕ) (P held : List Clause) (s t : Search) (v : SearchOutcome) (lines : List Line) →
    AccountsFor P held s Unknown →
    MakesSteps k s t v lines →
    (after : List Clause) × DerivesBy k held lines after × AccountsFor P after t v
    × (v ≡ Unknown → AddsManyNew k held lines)

-- Loading adds a clause to them.
abbrev pub LoadAccounts : Type 0
LoadAccounts =
    (P held : List Clause) (s t : Search) (c : Clause) (v w : SearchOutcome) (lines : List Line) → AccountsFor P held s v →
    v ≢ Unsat → Loads s t c w lines →
    (after : List Clause) × DerivesBy 0 (held ++ c ∷ []) lines after × AccountsFor (P ++ c ∷ []) after t w

-- What the verdicts say of the accepted clauses. Under Unsat one more changes nothing.
abbrev pub VerdictsAreRight : Type 0
VerdictsAreRight =
    ((P held : List Clause) (s : Search) (a : Assignment) → AccountsFor P held s (Sat a) → SatisfiesAll a P)
    × ((P held : List Clause) (s : Search) → AccountsFor P held s Unsat → IsSatisfiable P → ⊥)
    × ((P held : List Clause) (s : Search) (core : List Literal) → AccountsFor P held s (UnsatUnder core) →
    IsSatisfiableWith P core → ⊥)
    × ((P held : List Clause) (s : Search) (c : Clause) → AccountsFor P held s Unsat →
    AccountsFor (P ++ c ∷ []) (held ++ c ∷ []) s Unsat)

-- a derivation that counts is one
abbrev pub CountedDerives : Type 0
CountedDerives = (n : ℕ) (P : List Clause) (lines : List Line) (Q : List Clause) → DerivesBy n P lines Q →
    Derives P lines Q

-- each kept clause has a held one of its own
abbrev pub KeptAreHeld : Type 0
KeptAreHeld = (held : List Clause) (s : Search) → Fits held s → length s.kept ≤ length held

-- 7. What follows under other names.

-- A part of a step keeps what is covered under other names too.
abbrev pub NamesAreCovered : Type 0
NamesAreCovered =
    (n : ℕ) (s t : Search) (lines : List Line) (to : Literal → Literal) (known : Literal → Bool) (P : List Clause) →
    KeepsOpposites to →
    Proves n s t lines → CoversBy to known P s → CoversBy to known P t

-- So do steps that go on.
abbrev pub NamesStayCovered : Type 0
NamesStayCovered =
    (k : ℕ) (s t : Search) (lines : List Line) (to : Literal → Literal) (known : Literal → Bool) (P : List Clause) →
    KeepsOpposites to →
    MakesSteps k s t Unknown lines → CoversBy to known P s → CoversBy to known P t

-- Loading a clause covers one more accepted clause under other names, of which the loaded one is a part.
abbrev pub NamesAreLoaded : Type 0
NamesAreLoaded =
    (s t : Search) (c d : Clause) (lines : List Line) (to : Literal → Literal) (known : Literal → Bool)
    (P : List Clause) → KeepsOpposites to →
    Loads s t c Unknown lines → ((l : Literal) → l ∈ c → to l ∈ d) → CoversBy to known P s →
    CoversBy to known (P ++ d ∷ []) t

-- A variable's leaving keeps it, where its literal is known to be true for good once it is fixed.
abbrev pub DetachedAreCovered : Type 0
DetachedAreCovered =
    (s t : Search) (to : Literal → Literal) (known more : Literal → Bool) (P : List Clause) → t.kept ≡ s.kept →
    ((l : Literal) → l ∈ s.fixed → (l ∈ t.fixed) ⊎ (more (to l) ≡ true)) →
    ((l : Literal) → known l ≡ true → more l ≡ true) →
    CoversBy to known P s → CoversBy to more P t

-- Where steps found an assignment, the accepted clauses are satisfied by each assignment of the other names that gives the
-- search's literals the values found, and makes true what is known.
abbrev pub NamesAreSatisfied : Type 0
NamesAreSatisfied =
    (k : ℕ) (s t : Search) (found a : Assignment) (lines : List Line) (to : Literal → Literal) (known : Literal → Bool)
    (P : List Clause) →
    MakesSteps k s t (Sat found) lines → CoversBy to known P s →
    ((l : Literal) → IsLiteralOf s l → value a (to l) ≡ value found l) →
    ((l : Literal) → known l ≡ true → value a l ≡ true) → SatisfiesAll a P
