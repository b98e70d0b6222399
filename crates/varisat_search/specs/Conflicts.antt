-- The conflict of a step, and the reason that its learned clause gives.
use Rattle.std.specs.Prelude.{◌≡◌, ℕ, ◌<◌, false, List, [], ◌∷◌, length, Result, MatchResult}
use Rattle.varisat_theory.specs.promises.Literals.{Literal, Clause}
use Rattle.varisat_theory.specs.promises.Propagation.{IsComplete}
use Rattle.varisat_prop.specs.declared.prop.graph.Reason.{Reason}
use Rattle.varisat_prop.specs.declared.prop.graph.Reason.TheVariants as reason
use Rattle.varisat_clause.specs.declared.header.Tier.TheVariants as tier
use Rattle.varisat_clause.specs.Tiers.{is_tier}
use Rattle.varisat_clause.specs.Headers.{Header}
use Rattle.varisat_clause.specs.Stored.{StoredClause, AppendsClause}
use Rattle.varisat_clause.specs.Stores.{Store, AddsStored}
use Rattle.varisat_prop.specs.View.{View, kept}
use Rattle.varisat_prop.specs.Changes.{IsConflicting}
use Rattle.varisat_prop.specs.Pairs.{with_pair}
use Rattle.varisat_prop.specs.Watches.{Watches}
use Rattle.varisat_prop.specs.Visits.{WatchesClause}
use Rattle.varisat_search.specs.AssumptionParts.{AssumptionParts, EndsAssumed, HasFailed}
use Rattle.varisat_search.specs.declared.cdcl.Decision.{Decision}
use Rattle.varisat_search.specs.declared.cdcl.Decision.TheVariants as decision
use Rattle.varisat_search.specs.declared.cdcl.FoundConflict.{FoundConflict}
use Rattle.varisat_search.specs.declared.cdcl.FoundConflict.TheVariants as found

-- Why a search for a model stopped: a clause is false, or some assumption is.
abbrev pub Stops : View → AssumptionParts → FoundConflict → Type 0
Stops s x (found.Conflict c) = IsConflicting s c
Stops s x found.Assumption = HasFailed s x

-- What comes of a decision: the trail grows, or nothing is left to decide; or some assumption is false.
abbrev pub ComesToDecision : View → View → AssumptionParts → Decision → Type 0
ComesToDecision s t x decision.Made = length s.trail < length t.trail
ComesToDecision s t x decision.AllAssigned = (t ≡ s) × EndsAssumed t x
ComesToDecision s t x decision.AssumptionFailed = HasFailed t x

-- Propagation came to its end and nothing is left to decide, or the search for a model stopped.
abbrev pub EndsOrStops : View → AssumptionParts → Result (Unit {0}) FoundConflict → Type 0
EndsOrStops s x end = MatchResult end (λ _. IsComplete (kept s) s.trail × EndsAssumed s x) (Stops s x)

-- a learned clause at the place, with the header
abbrev pub learned_at : ℕ → Header → Clause → StoredClause
learned_at p h c = record { place = p; header = record h { len = length c }; literals = c }

-- what is kept: the clauses of three literals or more, and what literals imply by those of two
pub record Keeping : Type 0 where
  pub clauses : List StoredClause
  pub binary : List (List Literal)

-- what of this a search keeps
abbrev pub keeping_of : View → Keeping
keeping_of s = record { clauses = s.clauses; binary = s.binary }

-- A clause of two literals or more is kept and is the reason, one of three or more as learned; else nothing is kept.
abbrev pub IsKeptAsReason : Keeping → Keeping → Clause → Reason → Type 0
IsKeptAsReason old new [] r = (new ≡ old) × (r ≡ reason.Unit)
IsKeptAsReason old new (l ∷ []) r = (new ≡ old) × (r ≡ reason.Unit)
IsKeptAsReason old new (l ∷ m ∷ []) r =
    (new ≡ record old { binary = with_pair old.binary l m }) × (r ≡ reason.Binary (m ∷ []))
IsKeptAsReason old new (l ∷ m ∷ n ∷ c) r =
    (new.binary ≡ old.binary) × ((p : ℕ) × (h : Header) × (is_tier h.tier tier.Irred ≡ false)
    × AppendsClause old.clauses new.clauses (learned_at p h (l ∷ m ∷ n ∷ c)) × (r ≡ reason.Long p))

-- the clause is added to the store with the header where the reason names it there
abbrev pub IsStoredAsReason : Store → Store → Header → Clause → Reason → Type 0
IsStoredAsReason s t h c reason.Unit = t ≡ s
IsStoredAsReason s t h c (reason.Binary ms) = t ≡ s
IsStoredAsReason s t h c (reason.Long p) = AddsStored s t (learned_at p h c)

-- the clause is watched where it is kept as the reason
abbrev pub IsWatchedAsReason : Watches → Watches → Clause → Reason → Type 0
IsWatchedAsReason W V c reason.Unit = V ≡ W
IsWatchedAsReason W V c (reason.Binary ms) = V ≡ W
IsWatchedAsReason W V c (reason.Long p) = WatchesClause W V p c
