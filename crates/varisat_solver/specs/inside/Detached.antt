-- How variables leave the search and the tables of names, and which are to leave.
use Rattle.std.specs.Prelude.{◌≡◌, ◌≢◌, ◌↔◌, ◌⊎◌, ℕ, ◌<◌, Bool, true, false, not, Option, Some, None, List, [], ◌∷◌, length, map, slice_index_or, IsSome}
use Rattle.std.specs.Option.{is_none}
use Rattle.std.specs.List.{filter}
use Rattle.varisat_theory.specs.promises.Membership.{◌∈◌, IsDistinct}
use Rattle.varisat_theory.specs.promises.Literals.{Literal, variable_of}
use Rattle.varisat_literals.specs.promises.Numbers.{polarity_of}
use Rattle.varisat_prop.specs.declared.prop.graph.Conflict.{Conflict}
use Rattle.varisat_prop.specs.Changes.{IsConflicting}
use Rattle.varisat_prop.specs.Leaving.{leaves}
use Rattle.varisat_prop.specs.View.{View, kept}
use Rattle.varisat_search.specs.Forgotten.{IsMentioned}
use Rattle.varisat_search.specs.RootSimplified.{IsRootUnpropagated}
use Rattle.varisat_names.specs.promises.VarMap.{at}
use Rattle.varisat_names.specs.promises.VarData.{data_at}
use Rattle.varisat_names.specs.promises.Variables.{Tables, IsChangedTo, IsDetached}
use Rattle.varisat_names.specs.declared.variables.data.VarData.{VarData}
use Rattle.varisat_theory.specs.promises.Journals.{Entry}
use Rattle.varisat_search.specs.declared.context.Context.{Context}
use Rattle.varisat_proof.specs.promises.Proving.{IsLogged}
use Rattle.varisat_tracer.specs.inside.Tracing.{TracerState, retires_if_deleted}
use Rattle.varisat_solver.specs.inside.Accepting.{HasUser}
use Rattle.varisat_solver.specs.promises.Journals.{with_entries, LogsRetired}
use Rattle.varisat_solver.specs.inside.SinceChange.{GoesOnWithin}
use Rattle.varisat_solver.specs.inside.Spaces.{SpacesFit}
use Rattle.varisat_solver.specs.promises.States.{State}
use Rattle.varisat_solver.specs.inside.Representations.{undecided_spaces, IsValidSolver}
use Rattle.varisat_solver.specs.promises.Detaching.{leads_to_unassumed, AreOverAssumed, NoneIsToDetach}

-- the literals over solver variables of global variables that are not assumed
abbrev pub unassumed_among : Tables → List Literal → List Literal
unassumed_among t ls = filter (λ l. leads_to_unassumed t (at t.solvers.backward (variable_of l))) ls

-- At level 0 no literal is left to be propagated, or a clause is false there.
abbrev pub IsCalm : View → Type 0
IsCalm s = (IsRootUnpropagated s → ⊥) ⊎ ((s.decisions ≡ []) × ((conflict : Conflict) × IsConflicting s conflict))

-- As a step has begun: none is to leave, and at level 0 all is propagated, or a clause is false there.
abbrev pub HasDetached : Tables → View → Type 0
HasDetached t s =
    (NoneIsToDetach t s × (IsRootUnpropagated s → ⊥))
    ⊎ ((s.decisions ≡ []) × ((conflict : Conflict) × IsConflicting s conflict))

-- For each of so many variables it says whether a literal is over it.
pub record FlagsVariables (size : ℕ) (ls : List Literal) (flags : List Bool) : Type 0 where
  pub count : length flags ≡ size
  pub flagged : (v : ℕ) → (leaves flags v ≡ true) ↔ ((l : Literal) × (l ∈ ls) × (variable_of l ≡ v))

-- what is kept of a variable whose value is fixed: the value, and that it is isolated
abbrev pub fixed_to : Bool → VarData → VarData
fixed_to b d = record d { unit = Some b; isolated = true }

-- The global variable x has its solver variable v no longer, and the proof logs that it is gone, where it is.
pub record LosesSolverVar (x v : ℕ) (p q : TracerState) : Type 0 where
  pub dropped : IsDetached p.tables q.tables x v
  pub logged : IsLogged p.proof (retires_if_deleted q.tables x) q.proof

-- The solver variable of the literal was dropped, once its global variable was kept as isolated and with the value that makes the literal true.
abbrev pub IsDetachedAlone : Literal → TracerState → TracerState → Type 0
IsDetachedAlone l p q =
    (x : ℕ) × (mid : Tables) × IsChangedTo p.tables mid x (fixed_to (polarity_of l) (data_at p.tables.kept x))
    × LosesSolverVar x (variable_of l) (record p { tables = mid }) q

-- so were those of the literals, in turn
abbrev pub AreDetachedAlone : List Literal → TracerState → TracerState → Type 0
AreDetachedAlone [] p q = q ≡ p
AreDetachedAlone (l ∷ ls) p q = (mid : TracerState) × IsDetachedAlone l p mid × AreDetachedAlone ls mid q

-- a global variable without a name stands there
abbrev pub leads_to_hidden : Tables → Option ℕ → Bool
leads_to_hidden t None = false
leads_to_hidden t (Some x) = is_none (at t.users.backward x)

-- Of each hidden variable whose flag is not set there is one literal, among those that have flags.
pub record ListsUnneeded (t : Tables) (flags : List Bool) (ls : List Literal) : Type 0 where
  pub distinct : IsDistinct (map variable_of ls)
  pub listed : (v : ℕ) → (v ∈ map variable_of ls) ↔ ((v < length flags) × (slice_index_or flags v false ≡ false)
      × (leads_to_hidden t (at t.solvers.backward v) ≡ true))

-- The solver variables of the literals were dropped in turn.
abbrev pub AreDetached : List Literal → TracerState → TracerState → Type 0
AreDetached [] p q = q ≡ p
AreDetached (l ∷ ls) p q =
    (mid : TracerState) × ((x : ℕ) × LosesSolverVar x (variable_of l) p mid) × AreDetached ls mid q

-- Whose variables the search still has: those with a value are assumed, and those in use have a name or are named by a kept clause.
pub record HasOnlyNeeded (t : Tables) (s : View) : Type 0 where
  pub assumed : AreOverAssumed t s.trail
  pub needed : (v : ℕ) → IsSome (at t.solvers.backward v) → HasUser t v ⊎ IsMentioned (kept s) v

-- Where the search x has literals still to be propagated at level 0, those variables leave that may, or a clause is false.
abbrev pub DetachesWhereUnpropagated : {A : Type 0} → Context A → Tables → View → Type 0
DetachesWhereUnpropagated x t s = x.trail.decisions ≡ [] → x.trail.queue_head ≢ length x.trail.literals →
    ((conflict : Conflict) × IsConflicting s conflict) ⊎ HasOnlyNeeded t s

-- What is left of the tables where the solver variables of the literals were dropped: names stay, and so do other solver
-- variables and what is kept of their global variables.
pub record DetachesFromTables (ls : List Literal) (old new : Tables) : Type 0 where
  pub users : new.users ≡ old.users
  pub solvers : length new.solvers.backward ≡ length old.solvers.backward
  pub count : length new.kept ≡ length old.kept
  pub gone : (v : ℕ) → (l : Literal) → l ∈ ls → variable_of l ≡ v → at new.solvers.backward v ≡ None
  pub stays : (v : ℕ) → ((l : Literal) → l ∈ ls → variable_of l ≢ v) →
      at new.solvers.backward v ≡ at old.solvers.backward v
  pub fewer : (v x : ℕ) → at new.solvers.backward v ≡ Some x → at old.solvers.backward v ≡ Some x
  pub others : (x : ℕ) → ((l : Literal) → l ∈ ls → at old.solvers.backward (variable_of l) ≢ Some x) →
      data_at new.kept x ≡ data_at old.kept x

-- Variables left the search and the tables. What a valid solver keeps stays true, the search goes on with as many variables, and
-- the solver represents the same states, which have the entries of what left, as the proof has.
pub record Detaches {A : Type 0} (p : TracerState) (x : Context A) (q : TracerState) (y : Context A) : Type 0 where
  pub kept : IsValidSolver q.tables y
  pub within : GoesOnWithin x y
  pub count : length y.assignment.current ≡ length x.assignment.current
  pub given : (entries : List Entry) × IsLogged p.proof entries q.proof
  pub represents : (s : State) → SpacesFit (undecided_spaces p.tables p.proof.checker x) s →
      (logged : List Entry) × LogsRetired s.variables s.logged logged p.proof q.proof
      × SpacesFit (undecided_spaces q.tables q.proof.checker y) (with_entries logged s)
