-- Which watches there are, and what they keep.
use Rattle.std.specs.Prelude.{◌≡◌, ℕ, ◌<◌, ◌≤◌, ◌*◌, Bool, true, false, List, [], ◌∷◌, length, map, slice_index_or, slice_set}
use Rattle.varisat_theory.specs.promises.Membership.{◌∈◌, SameSet, IsDistinct}
use Rattle.varisat_theory.specs.promises.Literals.{Literal, Clause, opposite}
use Rattle.varisat_clause.specs.Stored.{StoredClause, IsClauseRef, literals_at}
use Rattle.varisat_prop.specs.View.{View, clause_at, implied_by, literal_at, decision_at}
use Rattle.varisat_prop.specs.declared.prop.watch_list.Watch.{Watch}

-- For each literal the watches to be looked at when it becomes true, and whether the lists are kept up to date.
pub record Watches : Type 0 where
  pub lists : List (List Watch)
  pub enabled : Bool

-- no literal, and the lists are kept up to date
abbrev pub no_watches : Watches
no_watches = record { lists = []; enabled = true }

-- the watches of a literal
abbrev pub watches_of : Watches → Literal → List Watch
watches_of W x = slice_index_or W.lists x []

-- the literal has these watches
abbrev pub with_watches : Watches → Literal → List Watch → Watches
with_watches W x ws = record W { lists = slice_set W.lists x ws }

-- the literal at a place of a clause: those at places 0 and 1 are watched
abbrev pub literal_in : Clause → ℕ → Literal
literal_in c j = slice_index_or c j 0

-- a watch of the clause at place i is among them
abbrev pub HasWatch : List Watch → ℕ → Type 0
HasWatch ws i = (w : Watch) × (w ∈ ws) × (w.cref ≡ i)

-- the literal is one of the clause's first two
abbrev pub IsWatchedBy : Clause → Literal → Type 0
IsWatchedBy c l = (j : ℕ) × (j < 2) × (literal_in c j ≡ l)

-- The watch, in the list of x, names a clause and a literal of it, and the clause is watched by the opposite of x.
abbrev pub IsKnownWatch : List StoredClause → Literal → Watch → Type 0
IsKnownWatch ks x w =
    IsClauseRef ks w.cref × (w.blocking ∈ literals_at ks w.cref) × IsWatchedBy (literals_at ks w.cref) (opposite x)

-- the watches name different clauses
abbrev pub NameOnce : List Watch → Type 0
NameOnce ws = IsDistinct (map (λ (w : Watch). w.cref) ws)

-- The lists watch the clauses: each watch names a clause that the opposite of its literal watches, once in each list, and each
-- clause has a watch in the lists of the opposites of its first two literals.
pub record IsWatching (W : Watches) (ks : List StoredClause) : Type 0 where
  pub known : (x : Literal) (w : Watch) → w ∈ watches_of W x → IsKnownWatch ks x w
  pub once : (x : Literal) → NameOnce (watches_of W x)
  pub watched : (i j : ℕ) → IsClauseRef ks i → j < 2 →
      HasWatch (watches_of W (opposite (literal_in (literals_at ks i) j))) i

-- a literal of the clause is true
abbrev pub IsSatisfied : View → Clause → Type 0
IsSatisfied s c = (k : ℕ) × (k < length s.trail) × (literal_at s k ∈ c)

-- A literal of the clause is true, no later than at the level of place p: no decision stands behind p and not behind it.
abbrev pub IsCovered : View → Clause → ℕ → Type 0
IsCovered s c p =
    (k : ℕ) × (k < length s.trail) × (literal_at s k ∈ c)
    × ((j : ℕ) → j < length s.decisions → p < decision_at s j → k < decision_at s j)

-- Where one of a clause's first two literals is false by a literal before place q, the clause is true no later than at that literal's level.
abbrev pub WatchesHoldTo : View → ℕ → Type 0
WatchesHoldTo s q = (i j p : ℕ) → IsClauseRef s.clauses i → j < 2 → p < q →
    literal_at s p ≡ opposite (literal_in (clause_at s i) j) → IsCovered s (clause_at s i) p

-- What a literal before place q implies by a clause of two literals is true no later than at its level.
abbrev pub IsImpliedTo : View → ℕ → Type 0
IsImpliedTo s q = (m p : ℕ) → p < q → m ∈ implied_by s (literal_at s p) → IsCovered s (m ∷ []) p

-- The lists, which are kept up to date, watch the clauses, and hold to place q; no decision stands behind it.
pub record IsWatched (W : Watches) (s : View) (q : ℕ) : Type 0 where
  pub lists : length W.lists ≡ 2 * length s.values
  pub enabled : W.enabled ≡ true
  pub watching : IsWatching W s.clauses
  pub settled : WatchesHoldTo s q
  pub binary : length s.binary ≡ 2 * length s.values
  pub implied : IsImpliedTo s q
  pub within : q ≤ length s.trail
  pub queue : (j : ℕ) → j < length s.decisions → decision_at s j ≤ q

-- Propagation has come to its end up to the queue's head, and no decision stands behind that. The lists watch the clauses, or are
-- empty as long as they are off.
pub record IsPropagated (W : Watches) (s : View) : Type 0 where
  pub lists : length W.lists ≡ 2 * length s.values
  pub watching : W.enabled ≡ true → IsWatching W s.clauses
  pub empty : W.enabled ≡ false → (x : Literal) → watches_of W x ≡ []
  pub settled : WatchesHoldTo s s.queue_head
  pub binary : length s.binary ≡ 2 * length s.values
  pub implied : IsImpliedTo s s.queue_head
  pub queue : (j : ℕ) → j < length s.decisions → decision_at s j ≤ s.queue_head

-- The same literals in another order.
pub record IsRearranged (c d : Clause) : Type 0 where
  pub same : SameSet d c
  pub long : length d ≡ length c
  pub distinct : IsDistinct c → IsDistinct d
