-- What becomes of a clause's distinct literals.
use Rattle.std.specs.Prelude.{◌≡◌, ℕ, Bool, Option, List, [], ◌∷◌, ◌++◌, ◌⊎◌, length}
use Rattle.std.specs.List.Sorted.{IsPermutation}
use Rattle.varisat_theory.specs.promises.Membership.{◌∈◌, SameSet, IsDistinct}
use Rattle.varisat_theory.specs.promises.Literals.{Literal, Clause, opposite, IsUnit}
use Rattle.varisat_theory.specs.promises.Derivations.{Line, Delete}
use Rattle.varisat_theory.specs.promises.Searches.{Search, IsTautology}
use Rattle.varisat_theory.specs.inside.Outcomes.{SearchOutcome, Unknown, Unsat, Loads}
use Rattle.varisat_prop.specs.declared.prop.graph.Reason.TheVariants as reason
use Rattle.varisat_clause.specs.Headers.{no_header}
use Rattle.varisat_clause.specs.Stored.{StoredClause, AppendsClause}
use Rattle.varisat_prop.specs.Parts.{IsMadeTrue}
use Rattle.varisat_prop.specs.View.{View, kept, IsTrueIn}
use Rattle.varisat_prop.specs.Changes.{enqueued}
use Rattle.varisat_prop.specs.Pairs.{with_pair}
use Rattle.varisat_search.specs.declared.state.SatState.{SatState}
use Rattle.varisat_search.specs.declared.state.SatState.TheVariants as verdict
use Rattle.varisat_search.specs.declared.context.Context.{Context}
use Rattle.varisat_search.specs.Contexts.{view}
use Rattle.varisat_search.specs.Seen.{search_of}
use Rattle.varisat_search.specs.Steps.{IsFree, SavesAll, accepted_with}

-- a loaded clause at the place, which is Irred
abbrev pub loaded_at : ℕ → Clause → StoredClause
loaded_at p c = record { place = p; header = record no_header { len = length c }; literals = c }

-- What the verdict after loading says of the clauses: under Unsat they conflict. Of assumptions loading says nothing.
abbrev pub loaded_outcome : SatState → SearchOutcome
loaded_outcome verdict.Unknown = Unknown
loaded_outcome verdict.Sat = Unknown
loaded_outcome verdict.Unsat = Unsat
loaded_outcome verdict.UnsatUnderAssumptions = Unknown

-- a literal of the clause is false
abbrev pub HasFalseLiteral : List (Option Bool) → Clause → Type 0
HasFalseLiteral values c = (l : Literal) × (l ∈ c) × IsMadeTrue values (opposite l)

-- Where the queue's head stands after a clause is kept: at the trail's first literal where a literal of the clause is false, so
-- that propagation sees the clause under each literal of the trail, and else where it stood.
abbrev pub IsHeadAfter : List (Option Bool) → Clause → ℕ → ℕ → Type 0
IsHeadAfter values c before after =
    (HasFalseLiteral values c × (after ≡ 0)) ⊎ ((HasFalseLiteral values c → ⊥) × (after ≡ before))

-- The empty clause, and a single literal that is false, give verdict Unsat. Another single literal is made true. A longer clause
-- is kept, and the queue begins anew where a literal of it is false.
abbrev pub IsAdded : View → View → Clause → SatState → SatState → Type 0
IsAdded s t [] before after = (t ≡ s) × (after ≡ verdict.Unsat)
IsAdded s t (l ∷ []) before after =
    (IsTrueIn s (opposite l) × (t ≡ s) × (after ≡ verdict.Unsat))
    ⊎ (IsFree s l × (t ≡ enqueued s l reason.Unit) × (after ≡ before))
IsAdded s t (l ∷ m ∷ []) before after =
    IsHeadAfter s.values (l ∷ m ∷ []) s.queue_head t.queue_head
    × (t ≡ record s { binary = with_pair s.binary l m; queue_head = t.queue_head })
    × (after ≡ before)
IsAdded s t (l ∷ m ∷ n ∷ c) before after =
    (p : ℕ) × AppendsClause s.clauses t.clauses (loaded_at p (l ∷ m ∷ n ∷ c))
    × IsHeadAfter s.values (l ∷ m ∷ n ∷ c) s.queue_head t.queue_head
    × (t ≡ record s { clauses = t.clauses; queue_head = t.queue_head }) × (after ≡ before)

-- So the clause in `lits` is added, and what is remembered stays.
abbrev pub AddsLoaded : {A : Type 0} → Context A → Context A → Type 0
AddsLoaded x y =
    IsAdded (view x) (view y) x.tmp_data.lits.items x.solver_state.sat_state y.solver_state.sat_state
    × (y.assignment.last ≡ x.assignment.last)

-- A single literal is loaded: the kept clauses stay, and where nothing was decided the trail has at most this literal more, and the queue's head stays.
pub record LoadsUnit (s t : View) (l : Literal) : Type 0 where
  pub clauses : kept t ≡ kept s
  pub head : s.decisions ≡ [] → t.queue_head ≡ s.queue_head
  pub trail : s.decisions ≡ [] → (t.trail ≡ s.trail) ⊎ (t.trail ≡ s.trail ++ l ∷ [])

-- A literal of the clause is true at level 0, so that it is deleted at once; and as a set the clause has two literals or
-- more, of which none is another's opposite. (A unit stays held, as what proves its literal, and so does a tautology.)
pub record IsDeletedAtOnce (s : Search) (c : Clause) : Type 0 where
  pub several : (l : Literal) → IsUnit l c → ⊥
  pub open_clause : IsTautology c → ⊥
  pub literal : Literal
  pub inside : literal ∈ c
  pub fixed : literal ∈ s.fixed

-- the second clause is the first in order, and `are` holds for the line that deletes it
abbrev pub DeletesInOrder : (Clause → Type 0) → (List Line → Type 0) → Clause → Clause → Type 0
DeletesInOrder ordered are c d = IsPermutation c d × ordered d × are (Delete d ∷ [])

-- the one line deletes the clause, with each of its literals once and in order
abbrev pub IsItsDeletion : (Clause → Type 0) → Clause → List Line → Type 0
IsItsDeletion ordered c lines = (d : Clause) × (lines ≡ Delete d ∷ []) × SameSet d c × IsDistinct d × ordered d

-- the lines that are due as a clause is loaded: its deletion, or none
abbrev pub AreLoadLines : (Clause → Type 0) → Search → Clause → List Line → Type 0
AreLoadLines ordered s c lines =
    (IsDeletedAtOnce s c × IsItsDeletion ordered c lines) ⊎ ((IsDeletedAtOnce s c → ⊥) × (lines ≡ []))

-- The clause is loaded by the lines that are due, and `are` holds for them.
pub record LoadsClause (ordered : Clause → Type 0) (are : List Line → Type 0) (s t : Search) (c : Clause)
    (v : SearchOutcome) : Type 0 where
  pub lines : List Line
  pub due : AreLoadLines ordered s c lines
  pub loads : Loads s t c v lines
  pub written : are lines

-- so a context comes to another, with its verdict
abbrev pub LoadsTo : {A : Type 0} → (Clause → Type 0) → (List Line → Type 0) → Clause → Context A → Context A → Type 0
LoadsTo ordered are c x y =
    LoadsClause ordered are (search_of (view x)) (search_of (view y)) c (loaded_outcome y.solver_state.sat_state)

-- It does so where the clause is accepted: all decisions are undone, their values are remembered, and no assumption has a level.
pub record LoadsAccepted {A : Type 0} (ordered : Clause → Type 0) (are : List Line → Type 0) (c : Clause)
    (x y : Context A) : Type 0 where
  pub lines : LoadsTo ordered are c x y
  pub undecided : y.trail.decisions ≡ []
  pub last : SavesAll (view x) x.assignment.last y.assignment.last
  pub assumptions : y.assumptions ≡ record x.assumptions { levels = 0 }
  pub state : y.solver_state ≡ accepted_with y.solver_state.sat_state x.solver_state
