-- The laws that the functions of `laws` state.
use Rattle.std.specs.Prelude.{◌≡◌, ◌≢◌, ℕ, suc, ◌+◌, ◌-◌, ◌*◌, ◌^◌, ◌<◌, ◌≤◌, Bool, true, false, nat_eq, List, [], ◌∷◌, ◌++◌, ◌⊎◌, ◌↔◌, length, map}
use Rattle.varisat_theory.specs.promises.Membership.{◌∈◌, ◌⊆◌, SameSet, IsDistinct}
use Rattle.varisat_theory.specs.promises.Literals.{Literal, Clause, Assignment, opposite, opposites, Satisfies, SatisfiesAll, MakesTrue, IsSatisfiable, IsSatisfiableWith, Entails, IsUnit, IsFailedCore}
use Rattle.varisat_theory.specs.promises.Propagation.{IsFalse, HasFalse, PropagatesToConflict, Conflicts, Follows, IsCoveredBy, IsComplete, IsSaturated}
use Rattle.varisat_theory.specs.promises.Derivations.{Line, TakesOut, IsPresentAfter, IsDerivation, Refutes, Derives}
use Rattle.varisat_theory.specs.promises.Rat.{ResolventsFollow, DerivesByDrat}
use Rattle.varisat_theory.specs.promises.Held.{SameClauses, SameLines, without}
use Rattle.varisat_theory.specs.promises.Analysis.{Implied, IsTrail, HasEarlierReasons, EndsIn, MarksAreReasoned}
use Rattle.varisat_theory.specs.inside.Example.{small_clauses, small_conflict, small_reason, small_resolved, small_learned, small_assumption, small_core}
use Rattle.varisat_theory.specs.promises.Renaming.{KeepsOpposites, IsOneToOneOn, IsWithin, rename, rename_line, named_back}
use Rattle.varisat_theory.specs.inside.Rank.{rank, with_units}
use Rattle.varisat_theory.specs.inside.Luby.{luby, sum_from, saturated, restart_point, walk_at}
use Rattle.varisat_theory.specs.promises.CallBounds.{CallSetting, call_point, IsInShortInterval, IsCall, CallProgress}

-- where propagation conflicts, no assignment satisfies the clauses and makes the base true
abbrev pub ConflictIsSound : Type 0
ConflictIsSound = (P : List Clause) (base : List Literal) → Conflicts P base → IsSatisfiableWith P base → ⊥

-- a clause that follows holds wherever the clauses do
abbrev pub FollowsEntails : Type 0
FollowsEntails = (P : List Clause) (c : Clause) → Follows P c → Entails P c

-- an assignment that satisfies the clauses at first satisfies what a derivation makes of them
abbrev pub DerivationIsSound : Type 0
DerivationIsSound = (P : List Clause) (lines : List Line) (Q : List Clause) (a : Assignment) → Derives P lines Q →
    SatisfiesAll a P → SatisfiesAll a Q

-- what lines refute is not satisfiable
abbrev pub RefutationIsSound : Type 0
RefutationIsSound = (P : List Clause) (lines : List Line) → Refutes P lines → IsSatisfiable P → ⊥

-- where a clause is RAT on one of its literals, what is satisfiable stays so with it
abbrev pub RatIsSound : Type 0
RatIsSound = (P : List Clause) (c : Clause) (l : Literal) → l ∈ c → ResolventsFollow P c l → IsSatisfiable P →
    IsSatisfiable (P ++ c ∷ [])

-- lines of DRAT keep clauses satisfiable: where propagation conflicts behind them, those at first are not
abbrev pub DratIsSound : Type 0
DratIsSound =
    ((P : List Clause) (lines : List Line) (Q : List Clause) → DerivesByDrat P lines Q → IsSatisfiable P →
    IsSatisfiable Q)
    × ((P : List Clause) (lines : List Line) (Q : List Clause) → DerivesByDrat P lines Q → Conflicts Q [] →
    IsSatisfiable P → ⊥)

-- an assignment to all literals under which no clause is false satisfies the clauses
abbrev pub AssignedSatisfies : Type 0
AssignedSatisfies =
    (P : List Clause) (known : List Literal) (a : Assignment) → MakesTrue a known → (HasFalse P known → ⊥) →
    ((c : Clause) → c ∈ P → (l : Literal) → l ∈ c → (l ∈ known) ⊎ (opposite l ∈ known)) → SatisfiesAll a P

-- clauses that are equal as sets are satisfied alike, and a clause with a literal and its opposite always is
abbrev pub SetsAreSatisfiedAlike : Type 0
SetsAreSatisfiedAlike =
    ((a : Assignment) (c d : Clause) → SameSet c d → Satisfies a c ↔ Satisfies a d)
    × ((a : Assignment) (c : Clause) (l : Literal) → l ∈ c → opposite l ∈ c → Satisfies a c)

-- a conflict is a finite list of clauses, each with all its literals but one false, and then a false clause
abbrev pub ConflictIsPropagation : Type 0
ConflictIsPropagation = (P : List Clause) (base : List Literal) → Conflicts P base ↔ PropagatesToConflict P base

-- a derivation line by line is a derivation in the plain sense, after which the same is present
abbrev pub DerivationIsLineByLine : Type 0
DerivationIsLineByLine = (P : List Clause) (lines : List Line) (Q : List Clause) →
    Derives P lines Q ↔ (IsDerivation P lines × IsPresentAfter P lines Q)

-- whichever equal clause each deletion takes out, the same clauses are present
abbrev pub PresentIsDetermined : Type 0
PresentIsDetermined =
    (P P' : List Clause) (lines : List Line) (Q Q' : List Clause) → SameClauses P P' → IsPresentAfter P lines Q →
    IsPresentAfter P' lines Q' →
    SameClauses Q Q'

-- a conflict stays where each clause has a part among the new ones and more is known
abbrev pub ConflictGrows : Type 0
ConflictGrows = (P Q : List Clause) (base more : List Literal) → IsCoveredBy P Q → base ⊆ more → Conflicts P base →
    Conflicts Q more

-- a clause that follows does so from more, and so does each clause that it is a part of
abbrev pub FollowsGrows : Type 0
FollowsGrows = (P Q : List Clause) (c d : Clause) → IsCoveredBy P Q → c ⊆ d → Follows P c → Follows Q d

-- clauses are covered by more ones in any order, by a list where a part stands in a clause's place, and by the same clauses as sets
abbrev pub MoreCovers : Type 0
MoreCovers =
    ((P Q : List Clause) → P ⊆ Q → IsCoveredBy P Q)
    × ((front back : List Clause) (c d : Clause) → d ⊆ c → IsCoveredBy (front ++ (c ∷ back)) (front ++ (d ∷ back)))
    × ((P Q : List Clause) → SameClauses P Q → IsCoveredBy P Q)

-- literals that are unit clauses of P leave the base
abbrev pub UnitsAreKnown : Type 0
UnitsAreKnown =
    (P : List Clause) (units base : List Literal) → ((l : Literal) → l ∈ units → (c : Clause) × (c ∈ P) × IsUnit l c) →
    Conflicts P (units ++ base) →
    Conflicts P base

-- a derivation and one from what is present after it are one
abbrev pub DerivationsJoin : Type 0
DerivationsJoin =
    (P : List Clause) (lines : List Line) (Q : List Clause) (more : List Line) → IsDerivation P lines →
    IsPresentAfter P lines Q →
    IsDerivation Q more → IsDerivation P (lines ++ more)

-- a beginning of a derivation is one
abbrev pub BeginningDerives : Type 0
BeginningDerives = (P : List Clause) (lines more : List Line) → IsDerivation P (lines ++ more) → IsDerivation P lines

-- a derivation stays one where more clauses are present
abbrev pub DerivationGrows : Type 0
DerivationGrows = (more P : List Clause) (lines : List Line) (Q : List Clause) → Derives P lines Q →
    Derives (more ++ P) lines (more ++ Q)

-- lines after a refutation leave it one, and so do more clauses
abbrev pub RefutationStays : Type 0
RefutationStays =
    ((P : List Clause) (lines more : List Line) → Refutes P lines → Refutes P (lines ++ more))
    × ((more P : List Clause) (lines : List Line) → Refutes P lines → Refutes (more ++ P) lines)

-- an assignment satisfies a renamed clause where it satisfies the clause, read back
abbrev pub SatisfactionIsRenamed : Type 0
SatisfactionIsRenamed = (f : Literal → Literal) → KeepsOpposites f → (a : Assignment) (c : Clause) →
    Satisfies a (map f c) ↔ Satisfies (named_back f a) c

-- a conflict stays one under other names
abbrev pub ConflictIsRenamed : Type 0
ConflictIsRenamed =
    (f : Literal → Literal) → KeepsOpposites f → (P : List Clause) (base : List Literal) → Conflicts P base →
    Conflicts (rename f P) (map f base)

-- where the names are one-to-one on the literals that occur, a conflict under them was one before
abbrev pub ConflictIsNamedBack : Type 0
ConflictIsNamedBack =
    (f : Literal → Literal) → KeepsOpposites f → (ls : List Literal) → IsOneToOneOn f ls →
    (P : List Clause) (base : List Literal) →
    ((c : Clause) → c ∈ P → IsWithin ls c) → IsWithin ls base → Conflicts (rename f P) (map f base) → Conflicts P base

-- a clause that follows does so under other names
abbrev pub FollowsIsRenamed : Type 0
FollowsIsRenamed = (f : Literal → Literal) → KeepsOpposites f → (P : List Clause) (c : Clause) → Follows P c →
    Follows (rename f P) (map f c)

-- a derivation stays one under other names
abbrev pub DerivationIsRenamed : Type 0
DerivationIsRenamed =
    (f : Literal → Literal) → KeepsOpposites f → (P : List Clause) (lines : List Line) (Q : List Clause) →
    Derives P lines Q →
    Derives (rename f P) (map (rename_line f) lines) (rename f Q)

-- a refutation stays one under other names
abbrev pub RefutationIsRenamed : Type 0
RefutationIsRenamed =
    (f : Literal → Literal) → KeepsOpposites f → (P : List Clause) (lines : List Line) → Refutes P lines →
    Refutes (rename f P) (map (rename_line f) lines)

-- to hold the same clauses is an equality: of a list with itself, back, and through a third
abbrev pub SameClausesIsEquality : Type 0
SameClausesIsEquality =
    ((P : List Clause) → SameClauses P P) × ((P Q : List Clause) → SameClauses P Q → SameClauses Q P)
    × ((P Q R : List Clause) → SameClauses P Q → SameClauses Q R → SameClauses P R)

-- where the same clauses are held, a clause that is equal as a set is added to both
abbrev pub SameClausesAdd : Type 0
SameClausesAdd = (P Q : List Clause) (c d : Clause) → SameClauses P Q → SameSet c d →
    SameClauses (P ++ (c ∷ [])) (Q ++ (d ∷ []))

-- where the same clauses are held, what is taken out of the one list is taken out of the other
abbrev pub SameClausesDelete : Type 0
SameClausesDelete =
    (P Q : List Clause) (c : Clause) (P' : List Clause) → SameClauses P Q → TakesOut P c P' →
    (Q' : List Clause) × TakesOut Q c Q' × SameClauses P' Q'

-- where the same clauses are held, they still are once those that mention a variable are dropped, and dropping adds none
abbrev pub SameClausesDrop : Type 0
SameClausesDrop =
    ((v : ℕ) (P Q : List Clause) → SameClauses P Q → SameClauses (without v P) (without v Q))
    × ((v : ℕ) (P : List Clause) → without v P ⊆ P)

-- the same lines are a derivation from the same clauses, and to the same clauses
abbrev pub SameLinesDerive : Type 0
SameLinesDerive =
    (P P' : List Clause) (lines lines' : List Line) (Q : List Clause) → SameClauses P P' → SameLines lines lines' →
    Derives P lines Q →
    (Q' : List Clause) × Derives P' lines' Q' × SameClauses Q Q'

-- the same lines refute the same clauses
abbrev pub SameLinesRefute : Type 0
SameLinesRefute = (P P' : List Clause) (lines lines' : List Line) → SameClauses P P' → SameLines lines lines' →
    Refutes P lines → Refutes P' lines'

-- The lemma for all of analysis: what the base implies may be taken as known.
abbrev pub ImpliedIsKnown : Type 0
ImpliedIsKnown = (P : List Clause) (base known : List Literal) → ((l : Literal) → l ∈ known → Implied P base l) →
    Conflicts P known → Conflicts P base

-- a clause that is false under a trail conflicts with the trail's base
abbrev pub TrailConflicts : Type 0
TrailConflicts = (P : List Clause) (base trail : List Literal) (c : Clause) → IsTrail P base trail → c ∈ P →
    IsFalse trail c → Conflicts P base

-- the resolvent of a clause that follows with a reason follows
abbrev pub ResolventFollows : Type 0
ResolventFollows =
    (P : List Clause) (c reason d : Clause) (l : Literal) → Follows P c → reason ∈ P → l ∈ reason →
    ((m : Literal) → m ∈ reason → (m ≡ l) ⊎ (m ∈ d)) → ((m : Literal) → m ∈ c → (m ≡ opposite l) ⊎ (m ∈ d)) →
    Follows P d

-- the clause that holds the opposites of what is reached from a false clause and not resolved follows
abbrev pub LearnedFollows : Type 0
LearnedFollows =
    (P : List Clause) (conflict : Clause) (reason : Literal → Clause) (resolved : Literal → Bool) (place : Literal → ℕ)
    (learned : Clause) →
    HasEarlierReasons P reason (λ k. resolved k ≡ true) place →
    EndsIn P conflict reason (λ k. resolved k ≡ true) (opposites learned) →
    conflict ∈ P → Follows P learned

-- the premises of that law can be met: on a small conflict they hold with 2 and 5 resolved, and so [-4 -1] follows
abbrev pub LearnedOnExample : Type 0
LearnedOnExample =
    HasEarlierReasons small_clauses small_reason (λ k. small_resolved k ≡ true) (λ l. l)
    × EndsIn small_clauses small_conflict small_reason (λ k. small_resolved k ≡ true) (opposites small_learned)
    × (small_conflict ∈ small_clauses)
    × Follows small_clauses small_learned

-- what minimization keeps of a clause that follows does so too
abbrev pub MinimizedFollows : Type 0
MinimizedFollows =
    (P : List Clause) (c kept : Clause) (marked : Literal → Bool) (reason : Literal → Clause) (place : Literal → ℕ) →
    MarksAreReasoned P kept (λ k. marked k ≡ true) reason place → ((m : Literal) → m ∈ c → marked (opposite m) ≡ true) →
    Follows P c → Follows P kept

-- literals that P alone makes false are left out of a clause that follows
abbrev pub ShorterFollows : Type 0
ShorterFollows = (P : List Clause) (c d : Clause) → Follows P c →
    ((m : Literal) → m ∈ c → (m ∈ d) ⊎ Implied P [] (opposite m)) → Follows P d

-- what P alone implies follows as a unit clause
abbrev pub ImpliedFollows : Type 0
ImpliedFollows = (P : List Clause) (l : Literal) → Implied P [] l → Follows P (l ∷ [])

-- a false assumption conflicts with the assumptions that the reasons of its opposite lead back to
abbrev pub CoreConflicts : Type 0
CoreConflicts =
    (P : List Clause) (l : Literal) (reason : Literal → Clause) (resolved : Literal → Bool) (place : Literal → ℕ)
    (core : List Literal) → l ∈ core →
    HasEarlierReasons P reason (λ k. resolved k ≡ true) place → EndsIn P (l ∷ []) reason (λ k. resolved k ≡ true) core →
    Conflicts P core

-- the premises of that law can be met: over the same clauses they hold for the assumption -4 with 4 resolved, and so -4 and 3 conflict
abbrev pub CoreOnExample : Type 0
CoreOnExample =
    (small_assumption ∈ small_core) × HasEarlierReasons small_clauses small_reason (λ k. nat_eq k 6 ≡ true) (λ l. l)
    × EndsIn small_clauses (small_assumption ∷ []) small_reason (λ k. nat_eq k 6 ≡ true) small_core
    × Conflicts small_clauses small_core

-- literals conflict exactly where the clause of their opposites follows
abbrev pub CoreFollows : Type 0
CoreFollows = (P : List Clause) (core : List Literal) → Conflicts P core ↔ Follows P (opposites core)

-- assumptions that conflict are a failed core, and stay one under more clauses
abbrev pub CoreFails : Type 0
CoreFails =
    ((P : List Clause) (assumptions core : List Literal) → core ⊆ assumptions → Conflicts P core →
    IsFailedCore P assumptions core)
    × ((P Q : List Clause) (assumptions core : List Literal) → P ⊆ Q → IsFailedCore P assumptions core →
    IsFailedCore Q assumptions core)

-- a satisfying assignment and a failed core exclude each other
abbrev pub AnswersExclude : Type 0
AnswersExclude = (P : List Clause) (assumptions core : List Literal) → IsSatisfiableWith P assumptions →
    IsFailedCore P assumptions core → ⊥

-- no conflict where propagation came to its end without one
abbrev pub SaturationHasNoConflict : Type 0
SaturationHasNoConflict = (P : List Clause) (base known : List Literal) → IsSaturated P known → base ⊆ known →
    Conflicts P base → ⊥

-- a clause that has one literal not known after complete propagation, with the others false, has no held clause as a part
abbrev pub LearnedIsNew : Type 0
LearnedIsNew =
    (P : List Clause) (known : List Literal) (l : Literal) (rest : Clause) → IsComplete P known → (l ∈ known → ⊥) →
    IsFalse known rest →
    (c : Clause) → c ∈ P → c ⊆ (l ∷ rest) → ⊥

-- propagation stays complete for fewer clauses, for one more that has two literals that are not false, and where clauses lost false literals
abbrev pub CompletenessStays : Type 0
CompletenessStays =
    ((P Q : List Clause) (known : List Literal) → Q ⊆ P → IsComplete P known → IsComplete Q known)
    × ((P : List Clause) (known : List Literal) (c : Clause) (x y : Literal) → x ∈ c → y ∈ c → x ≢ y →
    (opposite x ∈ known → ⊥) →
    (opposite y ∈ known → ⊥) → IsComplete P known → IsComplete (P ++ (c ∷ [])) known)
    × ((P Q : List Clause) (known : List Literal) →
    ((d : Clause) → d ∈ Q →
    (c : Clause) × (c ∈ P) × (d ⊆ c) × ((m : Literal) → m ∈ c → (m ∈ d) ⊎ (opposite m ∈ known))) →
    IsComplete P known →
    IsComplete Q known)

-- term 2^(k+1) - 1 ends a block, and the others repeat the block before
abbrev pub LubyRules : Type 0
LubyRules =
    ((k : ℕ) → luby (2 ^ suc k - 1) ≡ 2 ^ k)
    × ((k i : ℕ) → 2 ^ k ≤ i → i < 2 ^ suc k - 1 → luby i ≡ luby (i - 2 ^ k + 1))

-- no other sequence has these rules
abbrev pub LubyIsDetermined : Type 0
LubyIsDetermined =
    (f : ℕ → ℕ) → ((k : ℕ) → f (2 ^ suc k - 1) ≡ 2 ^ k) →
    ((k i : ℕ) → 2 ^ k ≤ i → i < 2 ^ suc k - 1 → f i ≡ f (i - 2 ^ k + 1)) → (i : ℕ) →
    f (suc i) ≡ luby (suc i)

-- the first 15 terms, and terms 31, 63 and 64
abbrev pub LubyStarts : Type 0
LubyStarts =
    (map luby (1 ∷ 2 ∷ 3 ∷ 4 ∷ 5 ∷ 6 ∷ 7 ∷ 8 ∷ 9 ∷ 10 ∷ 11 ∷ 12 ∷ 13 ∷ 14 ∷ 15 ∷ [])
    ≡ 1 ∷ 1 ∷ 2 ∷ 1 ∷ 1 ∷ 2 ∷ 4 ∷ 1 ∷ 1 ∷ 2 ∷ 1 ∷ 1 ∷ 2 ∷ 4 ∷ 8 ∷ []) × (luby 31 ≡ 16) × (luby 63 ≡ 32) × (luby 64 ≡ 1)

-- any run of terms that are all below 2^k sums to at most k * 2^k
abbrev pub SmallTermsSum : Type 0
SmallTermsSum = (k i r : ℕ) → ((t : ℕ) → t < r → luby (suc i + t) < 2 ^ k) → sum_from luby (suc i) r ≤ k * 2 ^ k

-- the first restart point is 0, each next one is later by scale times the next term until 2^64 - 1 is reached, and sums that saturate on the way give the same
abbrev pub RestartPoints : Type 0
RestartPoints =
    ((scale : ℕ) → restart_point scale 0 ≡ 0)
    × ((scale i : ℕ) →
    restart_point scale (suc i) ≡ saturated (restart_point scale i + saturated (scale * luby (suc i))))
    × ((scale i : ℕ) → 0 < scale → restart_point scale i < 2 ^ 64 - 1 →
    restart_point scale i < restart_point scale (suc i))

-- the points of a call go on in the same way from any first one, and from the sequence's start they are the restart points
abbrev pub CallPoints : Type 0
CallPoints =
    ((c : CallSetting) → call_point c 0 ≡ saturated c.first)
    × ((c : CallSetting) (i : ℕ) →
    call_point c (suc i) ≡ saturated (call_point c i + saturated (c.scale * luby (suc c.term + i))))
    × ((c : CallSetting) (i : ℕ) → c.first ≡ 0 → c.term ≡ 0 → call_point c i ≡ restart_point c.scale i)

-- the first five points at scale 128
abbrev pub RestartsStart : Type 0
RestartsStart = map (restart_point 128) (0 ∷ 1 ∷ 2 ∷ 3 ∷ 4 ∷ []) ≡ 0 ∷ 128 ∷ 256 ∷ 512 ∷ 640 ∷ []

-- Knuth's walk gives the terms
abbrev pub WalkIsLuby : Type 0
WalkIsLuby = (i : ℕ) → 2 ^ (walk_at i).exponent ≡ luby (suc i)

-- the rank of a trail of at most n literals is below 2^(n+1)
abbrev pub RankIsBounded : Type 0
RankIsBounded = (n : ℕ) (trail : List Bool) → length trail ≤ n → rank n trail < 2 ^ suc n

-- an implied literal in a decision's place raises the rank, whatever stands after it
abbrev pub RankRises : Type 0
RankRises = (n : ℕ) (front old new : List Bool) → length (front ++ (false ∷ old)) ≤ n →
    rank n (front ++ (false ∷ old)) < rank n (front ++ (true ∷ new))

-- a conflict step raises the rank: the trail grows, and then an implied literal takes a decision's place
abbrev pub StepRaisesRank : Type 0
StepRaisesRank =
    (n : ℕ) (trail more front old new : List Bool) → trail ++ more ≡ front ++ (false ∷ old) →
    length (front ++ (false ∷ old)) ≤ n →
    rank n trail < rank n (front ++ (true ∷ new))

-- Units counted in front: a unit that is removed from the trail's beginning and counted leaves the flags as they were, so that
-- the rank keeps its bound and rises as before.
abbrev pub UnitsComeFirst : Type 0
UnitsComeFirst =
    ((u v : ℕ) (trail : List Bool) → with_units u (with_units v trail) ≡ with_units (u + v) trail)
    × ((n u : ℕ) (trail : List Bool) → u + length trail ≤ n → rank n (with_units u trail) < 2 ^ suc n)
    × ((n u : ℕ) (front old new : List Bool) → u + length (front ++ (false ∷ old)) ≤ n →
    rank n (with_units u (front ++ (false ∷ old))) < rank n (with_units u (front ++ (true ∷ new))))

-- which of two trails has the greater rank does not depend on the number of variables, as long as the lower one has no more literals
abbrev pub RanksAreSteady : Type 0
RanksAreSteady = (m n : ℕ) (low high : List Bool) → length low ≤ m → length high ≤ m → length low ≤ n →
    rank m low < rank m high → rank n low < rank n high

-- steps that each raise the rank are at most as many as the rank they come to
abbrev pub RisingIsShort : Type 0
RisingIsShort = (n : ℕ) (trail : ℕ → List Bool) (k : ℕ) →
    ((i : ℕ) → i < k → rank n (trail i) < rank n (trail (suc i))) → k ≤ rank n (trail k)

-- a list of different elements is no longer than one that holds them
abbrev pub DistinctIsShort : Type 0
DistinctIsShort = (xs ys : List ℕ) → IsDistinct xs → xs ⊆ ys → length xs ≤ length ys

-- The steps before a first restart, those of whole intervals and those after the last one: each stretch is shorter than 2^(n+1),
-- the last at most that.
abbrev pub IntervalsAreBounded : Type 0
IntervalsAreBounded =
    (n scale i r first last : ℕ) → 0 < scale → first < 2 ^ suc n → last ≤ 2 ^ suc n →
    ((t : ℕ) → t < r → scale * luby (suc i + t) < 2 ^ suc n) →
    first + scale * sum_from luby (suc i) r + last < (n + 2) * 2 ^ (n + 2)

-- a call makes fewer than (n+2) * 2^(n+2) steps, wherever it begins in the sequence and whatever its first restart point
abbrev pub CallIsBounded : Type 0
CallIsBounded = (c : CallSetting) (steps : ℕ) (trail : ℕ → List Bool) → IsCall c steps trail →
    steps < (c.variables + 2) * 2 ^ (c.variables + 2)

-- The same step by step: what a loop of steps keeps holds at first, goes on where a step raises the rank, begins at a restart
-- point or restarts within a short interval, and bounds the steps with one step more.
abbrev pub ProgressIsBounded : Type 0
ProgressIsBounded =
    ((c : CallSetting) (top : ℕ) → CallProgress c 0 top)
    × ((c : CallSetting) (t top next : ℕ) → top < next → c.start + t < 2 ^ 64 - 1 → top < 2 ^ suc c.variables →
    CallProgress c t top → CallProgress c (suc t) next)
    × ((c : CallSetting) (t top next i : ℕ) → c.start + t ≡ call_point c i → c.start + t < 2 ^ 64 - 1 →
    top < 2 ^ suc c.variables → 0 < next →
    CallProgress c t top → CallProgress c (suc t) next)
    × ((c : CallSetting) (t top next i : ℕ) → IsInShortInterval c (c.start + t) i → c.start + t < 2 ^ 64 - 1 →
    top < 2 ^ suc c.variables → 0 < next →
    CallProgress c t top → CallProgress c (suc t) next)
    × ((c : CallSetting) (t top : ℕ) → 0 < c.scale → top + 2 ≤ 2 ^ suc c.variables → CallProgress c t top →
    suc t < (c.variables + 2) * 2 ^ (c.variables + 2))

-- the bound on a call is at most 2^(2n+3)
abbrev pub BoundIsAPower : Type 0
BoundIsAPower = (n : ℕ) → (n + 2) * 2 ^ (n + 2) ≤ 2 ^ (2 * n + 3)
