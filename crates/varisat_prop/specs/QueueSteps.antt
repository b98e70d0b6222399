-- How the next literal of the queue is propagated: what the functions that do so ask for and give.
use Rattle.std.specs.Prelude.{◌≡◌, ℕ, suc, ◌<◌, ◌*◌, List, length, Option, Bool, Result, IfOk}
use Rattle.std.specs.Result.{MatchResult}
use Rattle.std.specs.declared.alloc.AllocError.{AllocError}
use Rattle.varisat_theory.specs.promises.Membership.{◌∈◌}
use Rattle.varisat_theory.specs.promises.Literals.{Literal, opposite}
use Rattle.varisat_theory.specs.promises.Propagation.{IsComplete}
use Rattle.varisat_clause.specs.Stored.{IsClauseRef, literals_at, with_literals}
use Rattle.varisat_clause.specs.Stores.{Store, is_sound, IsSound}
use Rattle.varisat_clause.specs.Collected.{live_clauses}
use Rattle.varisat_clause.specs.Shapes.{KeepsShapes}
use Rattle.varisat_prop.specs.declared.prop.graph.Conflict.{Conflict}
use Rattle.varisat_prop.specs.declared.prop.graph.ImplGraph.{ImplGraph}
use Rattle.varisat_prop.specs.declared.prop.graph.ImplNode.{ImplNode}
use Rattle.varisat_prop.specs.declared.prop.long.Found.{Found}
use Rattle.varisat_prop.specs.declared.prop.long.Visit.{Visit}
use Rattle.varisat_prop.specs.declared.prop.watch_list.Watch.{Watch}
use Rattle.varisat_prop.specs.Parts.{Values, TrailParts}
use Rattle.varisat_prop.specs.View.{View, view_of, kept, implied_by, IsTrueIn, clause_at, literal_at, WellFormed}
use Rattle.varisat_prop.specs.Changes.{IsConflicting}
use Rattle.varisat_prop.specs.Looks.{Propagates}
use Rattle.varisat_prop.specs.Watches.{Watches, IsWatchedBy, WatchesHoldTo, IsImpliedTo, IsWatched}
use Rattle.varisat_prop.specs.Visits.{IsFound, IsVisited, IsVisit}

-- what the parts of a search hold
pub record SearchParts : Type 0 where
  pub store : Store
  pub binary : List (List Literal)
  pub values : Values
  pub trail : TrailParts
  pub nodes : List ImplNode

-- all of them together
abbrev pub parts_of : {A : Type 0} → Store → List (List Literal) → Values → TrailParts → ImplGraph A → SearchParts
parts_of store binary values trail graph =
    record { store = store; binary = binary; values = values; trail = trail; nodes = graph.nodes.items }

-- the view of the parts
abbrev pub view_of_parts : SearchParts → View
view_of_parts p =
    record {
      sound = is_sound p.store;
      clauses = live_clauses p.store;
      binary = p.binary;
      values = p.values.current;
      trail = p.trail.literals;
      queue_head = p.trail.queue_head;
      decisions = p.trail.decisions;
      nodes = p.nodes;
    }

-- The queue's head stays, and so does what the view doesn't show: the values that were remembered, and of the stored
-- clauses all but the order of literals.
pub record KeepsUnseen (p q : SearchParts) : Type 0 where
  pub last : q.values.last ≡ p.values.last
  pub head : q.trail.queue_head ≡ p.trail.queue_head
  pub store : KeepsShapes p.store q.store

-- The literal is the next of the queue, and the lists watch the clauses.
pub record IsNext (W : Watches) (s : View) (l : Literal) : Type 0 where
  pub well : WellFormed s
  pub head : literal_at s s.queue_head ≡ l
  pub within : s.queue_head < length s.trail
  pub watched : IsWatched W s s.queue_head

-- The search went on without a decision, and the lists, which are V now, watch the clauses.
pub record GoesOnWith (p q : SearchParts) (V : Watches) : Type 0 where
  pub propagates : Propagates (view_of_parts p) (view_of_parts q)
  pub keeps : KeepsUnseen p q
  pub watched : IsWatched V (view_of_parts q) q.trail.queue_head

-- Propagation ended so in the view: it has the property, or a kept clause is named, all whose literals are false.
abbrev pub EndsPropagation : (View → Type 0) → View → Result (Unit {0}) Conflict → Type 0
EndsPropagation P t end = MatchResult end (λ _. P t) (λ conflict. IsConflicting t conflict)

-- what the literal implies by clauses of two literals is true
abbrev pub HasImplied : Literal → View → Type 0
HasImplied l s = (m : Literal) → m ∈ implied_by s l → m ∈ s.trail

-- the next literal of the queue is propagated too, over the clauses of three literals or more
abbrev pub WatchesHoldNext : View → Type 0
WatchesHoldNext s = WatchesHoldTo s (suc s.queue_head)

-- and over all clauses
abbrev pub IsNextPropagated : View → Type 0
IsNextPropagated s = WatchesHoldTo s (suc s.queue_head) × IsImpliedTo s (suc s.queue_head)

-- No clause is false, none leaves a literal that isn't true, and each literal was propagated.
abbrev pub IsFullyPropagated : View → Type 0
IsFullyPropagated s = IsComplete (kept s) s.trail × (s.queue_head ≡ length s.trail)

-- A true literal has the watch of a kept clause, which can be looked at.
pub record IsWatchOf (W : Watches) (s : View) (l : Literal) (w : Watch) : Type 0 where
  pub well : WellFormed s
  pub place : IsClauseRef s.clauses w.cref
  pub blocking : w.blocking ∈ clause_at s w.cref
  pub watched : IsWatchedBy (clause_at s w.cref) (opposite l)
  pub lists : length W.lists ≡ 2 * length s.values
  pub is_true : IsTrueIn s l

-- In the store the clause at place i, of which the watched literal f is false, is in the order in which it is watched now.
pub record IsReorderedAt (old new : Store) (values : List (Option Bool)) (i : ℕ) (f : Literal)
    (o : Found) : Type 0 where
  pub sound : IsSound new
  pub changed : live_clauses new ≡ with_literals (live_clauses old) i (literals_at (live_clauses new) i)
  pub found : IsFound values (literals_at (live_clauses old) i) (literals_at (live_clauses new) i) f o
  pub store : KeepsShapes old new

-- The parts of a search with the lists of its watches.
pub record PartsWithLists : Type 0 where
  pub parts : SearchParts
  pub lists : Watches

-- both together
abbrev pub with_lists : SearchParts → Watches → PartsWithLists
with_lists p W = record { parts = p; lists = W }

-- The watch that l has of the clause at place i was visited, and came to v.
pub record IsVisitedAs (x y : PartsWithLists) (l : Literal) (i : ℕ) (v : Visit) : Type 0 where
  pub visited : IsVisited (view_of_parts x.parts) (view_of_parts y.parts) x.lists y.lists l i
  pub visit : IsVisit (view_of_parts y.parts) l i v
  pub keeps : KeepsUnseen x.parts y.parts

-- The parts of a search one by one, of which the clauses of two literals stay: each as it was, and as it is then.
module _ {A : Type 0} (store store' : Store) (binary : List (List Literal)) (values values' : Values)
    (trail trail' : TrailParts)
    (graph graph' : ImplGraph A) where
  -- the search went on without a decision
  abbrev pub PartsPropagate : Type 0
  PartsPropagate = Propagates (view_of store binary values trail graph) (view_of store' binary values' trail' graph')

  -- the queue's head stays, and so does what the view doesn't show
  abbrev pub PartsKeep : Type 0
  PartsKeep = KeepsUnseen (parts_of store binary values trail graph) (parts_of store' binary values' trail' graph')

  -- the search went on so, and the lists, which are V now, watch the clauses
  abbrev pub PartsGoOn : Watches → Type 0
  PartsGoOn V = GoesOnWith (parts_of store binary values trail graph) (parts_of store' binary values' trail' graph') V

  -- Unless it is out of memory, the watch that l has was visited, by which the lists W became V, and came to the result.
  abbrev pub PartsVisit : Watches → Watches → Literal → Watch → Result Visit AllocError → Type 0
  PartsVisit W V l w result =
      IfOk result (λ v. IsVisitedAs (with_lists (parts_of store binary values trail graph) W)
      (with_lists (parts_of store' binary values' trail' graph') V) l w.cref v)
