-- What a visit of a watch finds and does.
use Rattle.std.specs.Prelude.{◌≡◌, ◌≢◌, ℕ, ◌<◌, ◌≤◌, Bool, true, false, Option, List, [], ◌∷◌, ◌++◌, length, take, ◌⊎◌}
use Rattle.varisat_theory.specs.promises.Membership.{◌∈◌}
use Rattle.varisat_theory.specs.promises.Literals.{Literal, Clause, opposite}
use Rattle.varisat_theory.specs.promises.Propagation.{IsFalse}
use Rattle.varisat_prop.specs.Parts.{IsMadeTrue}
use Rattle.varisat_prop.specs.View.{View, clause_at}
use Rattle.varisat_prop.specs.Looks.{Propagates, IsFalseAt}
use Rattle.varisat_prop.specs.Watches.{Watches, watches_of, literal_in, IsWatchedBy, HasWatch, IsSatisfied, WatchesHoldTo, IsRearranged}
use Rattle.varisat_prop.specs.declared.prop.watch_list.Watch.{Watch}
use Rattle.varisat_prop.specs.declared.prop.watch_list.Taken.{Taken}
use Rattle.varisat_prop.specs.declared.prop.watch_list.Taken.TheVariants as taken
use Rattle.varisat_prop.specs.declared.prop.long.Found.{Found}
use Rattle.varisat_prop.specs.declared.prop.long.Found.TheVariants as found
use Rattle.varisat_prop.specs.declared.prop.long.Visit.{Visit}
use Rattle.varisat_prop.specs.declared.prop.long.Visit.TheVariants as visit

-- the watches that were taken
abbrev pub taken_watches : {A : Type 0} → Taken A → List Watch
taken_watches (taken.Few few count) = take count few
taken_watches (taken.Many many) = many.items

-- there are as many in place as were counted
abbrev pub AreInPlace : {A : Type 0} → Taken A → Type 0
AreInPlace (taken.Few few count) = count ≤ 2
AreInPlace (taken.Many many) = Unit

-- the first two literals are l and f, in one of the orders
abbrev pub IsPair : Clause → Literal → Literal → Type 0
IsPair c l f = ((literal_in c 0 ≡ l) × (literal_in c 1 ≡ f)) ⊎ ((literal_in c 1 ≡ l) × (literal_in c 0 ≡ f))

-- the literals of the clause c behind the first two are false, and it stays as it is
abbrev pub HasNoOther : List (Option Bool) → Clause → Clause → Type 0
HasNoOther values c d = (d ≡ c) × ((k : ℕ) → 2 ≤ k → k < length c → IsFalseAt values c k)

-- the second literal is m, and isn't false
abbrev pub HasOther : List (Option Bool) → Clause → Literal → Type 0
HasOther values d m = (literal_in d 1 ≡ m) × (IsMadeTrue values (opposite m) → ⊥)

-- what the clause c, reordered as d, comes to where its watched literal f is false
abbrev pub IsFound : List (Option Bool) → Clause → Clause → Literal → Found → Type 0
IsFound values c d f (found.True l) =
    IsRearranged c d × IsPair c l f × (literal_in d 0 ≡ l) × (literal_in d 1 ≡ f) × IsMadeTrue values l
    × (literal_in c 0 ≡ l → d ≡ c)
IsFound values c d f (found.Other l m) =
    IsRearranged c d × IsPair c l f × (literal_in d 0 ≡ l) × (literal_in d 1 ≡ m) × (IsMadeTrue values l → ⊥)
    × (IsMadeTrue values (opposite m) → ⊥)
IsFound values c d f (found.False l) =
    IsRearranged c d × IsPair c l f × (literal_in d 0 ≡ l) × (literal_in d 1 ≡ f) × (IsMadeTrue values l → ⊥)
    × ((k : ℕ) → k < length d → IsFalseAt values d k)
IsFound values c d f (found.Implied l) =
    IsRearranged c d × IsPair c l f × (literal_in d 0 ≡ l) × (literal_in d 1 ≡ f) × (IsMadeTrue values l → ⊥)
    × (IsMadeTrue values (opposite l) → ⊥)
    × ((k : ℕ) → 1 ≤ k → k < length d → IsFalseAt values d k)

-- Watches of the clause d at place i may have been added.
pub record AddsWatches (W V : Watches) (i : ℕ) (d : Clause) : Type 0 where
  pub enabled : V.enabled ≡ W.enabled
  pub count : length V.lists ≡ length W.lists
  pub old : (x : Literal) (w : Watch) → w ∈ watches_of W x → w ∈ watches_of V x
  pub new : (x : Literal) (w : Watch) → w ∈ watches_of V x →
      (w ∈ watches_of W x) ⊎ ((w.cref ≡ i) × (w.blocking ∈ d) × IsWatchedBy d (opposite x))

-- the list gets a watch of the clause at place i
abbrev pub GetsWatch : List Watch → List Watch → ℕ → Type 0
GetsWatch ws vs i = (w : Watch) × (w.cref ≡ i) × (vs ≡ ws ++ w ∷ [])

-- The clause d at place i is watched by its first two literals from now on, where the lists are kept up to date.
pub record WatchesClause (W V : Watches) (i : ℕ) (d : Clause) : Type 0 where
  pub adds : AddsWatches W V i d
  pub pair : W.enabled ≡ true → (j : ℕ) → j < 2 → HasWatch (watches_of V (opposite (literal_in d j))) i
  pub once : literal_in d 0 ≢ literal_in d 1 → (x : Literal) →
      (watches_of V x ≡ watches_of W x) ⊎ GetsWatch (watches_of W x) (watches_of V x) i
  pub off : W.enabled ≡ false → V ≡ W

-- A visit of the clause at place i, which the opposite of l watches.
pub record IsVisited (s t : View) (W V : Watches) (l : Literal) (i : ℕ) : Type 0 where
  pub propagates : Propagates s t
  pub elsewhere : (k : ℕ) → k ≢ i → clause_at t k ≡ clause_at s k
  pub settled : (q : ℕ) → q ≤ length s.trail → WatchesHoldTo s q → WatchesHoldTo t q
  pub adds : AddsWatches W V i (clause_at t i)
  -- its other watched literal stays
  pub other : (x : Literal) → x ≢ opposite l → IsWatchedBy (clause_at s i) x → IsWatchedBy (clause_at t i) x
  -- a list gets a watch only where the clause had none in it
  pub once : (x : Literal) → (watches_of V x ≡ watches_of W x)
      ⊎ (GetsWatch (watches_of W x) (watches_of V x) i × (IsWatchedBy (clause_at s i) (opposite x) → ⊥))
  -- the first two literals were so before, or have a new watch
  pub pair : (j : ℕ) → j < 2 → ((h : ℕ) × (h < 2) × (literal_in (clause_at t i) j ≡ literal_in (clause_at s i) h))
      ⊎ HasWatch (watches_of V (opposite (literal_in (clause_at t i) j))) i

-- Whether the watch stays, and what of it: the clause is true, or false; or it isn't watched here any more.
abbrev pub IsVisit : View → Literal → ℕ → Visit → Type 0
IsVisit t l i (visit.Keep b) =
    (b ∈ clause_at t i) × IsWatchedBy (clause_at t i) (opposite l) × IsSatisfied t (clause_at t i)
IsVisit t l i (visit.Conflicting b) =
    (b ∈ clause_at t i) × IsWatchedBy (clause_at t i) (opposite l) × IsFalse t.trail (clause_at t i)
IsVisit t l i visit.Dropped = (j : ℕ) → j < 2 → literal_in (clause_at t i) j ≢ opposite l
