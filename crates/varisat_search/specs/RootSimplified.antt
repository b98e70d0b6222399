-- What comes of a search that simplifies the root level before a step.
use Rattle.std.specs.Prelude.{◌≡◌, ◌≢◌, ◌⊎◌, ℕ, ◌<◌, ◌++◌, Bool, None, Result, MatchResult, List, [], ◌∷◌, length, take, slice_index_or}
use Rattle.varisat_theory.specs.promises.Membership.{◌∈◌}
use Rattle.varisat_theory.specs.promises.Literals.{Literal, Clause, variable_of}
use Rattle.varisat_theory.specs.promises.Propagation.{IsComplete}
use Rattle.varisat_theory.specs.promises.Derivations.{Line}
use Rattle.varisat_theory.specs.inside.StepLaws.{unit_lines}
use Rattle.varisat_prop.specs.declared.prop.graph.Conflict.{Conflict}
use Rattle.varisat_prop.specs.declared.prop.graph.Reason.TheVariants as reason
use Rattle.varisat_prop.specs.View.{View, kept, node_at, kinds}
use Rattle.varisat_prop.specs.Changes.{IsConflicting}
use Rattle.varisat_prop.specs.Looks.{Propagates}
use Rattle.varisat_search.specs.declared.context.Context.{Context}
use Rattle.varisat_search.specs.declared.state.SatState.TheVariants as verdict
use Rattle.varisat_search.specs.Contexts.{view, IsReady}
use Rattle.varisat_search.specs.Decisions.{SameDecidable}
use Rattle.varisat_search.specs.Progress.{ProvesTo, StepsTo, AddOneIfUnknown, MakesStep}
use Rattle.varisat_search.specs.ProvedUnits.{implied_units, ProvesUnits}
use Rattle.varisat_search.specs.Simplifications.{IsSimplified, pair_lines, clause_lines}
use Rattle.varisat_search.specs.Steps.{IsPropagatedToEnd, ExtendsTrail}

-- at level 0 literals are still to be propagated
abbrev pub IsRootUnpropagated : View → Type 0
IsRootUnpropagated s = (s.decisions ≡ []) × (s.queue_head < length s.trail)

-- the literals that stand before the first of the decisions
abbrev pub before_decisions : List ℕ → List Literal → List Literal
before_decisions [] ls = ls
before_decisions (p ∷ ps) ls = take p ls

-- the literals of level 0, which are true for good
abbrev pub fixed_literals : View → List Literal
fixed_literals s = before_decisions s.decisions s.trail

-- The literals of level 0 stay, and all of them are propagated.
abbrev pub FixesNone : View → View → Type 0
FixesNone s t = (fixed_literals t ≡ fixed_literals s) × (IsRootUnpropagated t → ⊥)

-- They stay, or at level 0 some are still to be propagated.
abbrev pub KeepsFixed : View → View → Type 0
KeepsFixed s t = (fixed_literals t ≡ fixed_literals s) ⊎ IsRootUnpropagated t

-- What a step makes of the literals of level 0. Where all of them are propagated as it begins they stay, or it ends at level 0
-- with one that is still to be propagated. Where a clause is false at level 0 it comes to Unsat.
pub record FixesByLearning {A : Type 0} (x y : Context A) : Type 0 where
  pub keeps : (IsRootUnpropagated (view x) → ⊥) → y.solver_state.sat_state ≢ verdict.Unsat → KeepsFixed (view x) (view y)
  pub refutes : x.trail.decisions ≡ [] → (conflict : Conflict) → IsConflicting (view x) conflict →
      y.solver_state.sat_state ≡ verdict.Unsat

-- Propagation came to its end or to a false clause, and each unit was proved, by one line for each that a clause implied.
-- Then, unless a clause is false, the clauses were simplified: one that goes is deleted, and one that becomes shorter is
-- deleted once the shorter one was added. There are no other lines, and they come in this order.
pub record SimplifiesRoot (lines : List Line) (s t : View) (end : Result (Unit {0}) Conflict) : Type 0 where
  pub propagated : View
  pub proved : View
  pub propagates : Propagates s propagated
  pub units : ProvesUnits propagated proved
  pub complete : MatchResult end (λ _. IsComplete (kept propagated) propagated.trail) (λ _. Unit {0})
  pub ends : MatchResult end
      (λ _. IsSimplified proved t
      × (lines ≡ unit_lines (implied_units propagated) ++ (pair_lines proved ++ clause_lines proved)))
      (λ conflict. (t ≡ proved) × IsConflicting t conflict × (lines ≡ unit_lines (implied_units propagated)))

-- The search goes on and takes nothing back; clauses may go from it and become shorter, by lines for which `are` holds.
pub record GoesOnByLines {A : Type 0} (are : List Line → Type 0) (x y : Context A) : Type 0 where
  pub ready : IsReady y
  pub proves : (lines : List Line) × ProvesTo lines x y × are lines
  pub extends : ExtendsTrail (view x) (view y)
  pub kinds_more : (more : List Bool) × (kinds (view y) ≡ kinds (view x) ++ more)
  pub decidable : SameDecidable (view x) x.vsids (view y) y.vsids
  pub last : y.assignment.last ≡ x.assignment.last

-- the root level is simplified, by lines for which `are` holds
abbrev pub SimplifiesRootByLines : {A : Type 0} → (List Line → Type 0) → Context A → Context A →
    Result (Unit {0}) Conflict → Type 0
SimplifiesRootByLines are x y end = GoesOnByLines (λ lines. SimplifiesRoot lines (view x) (view y) end × are lines) x y

-- Where literals of the root level are still to be propagated, the root level is simplified; else there is no line. In any case the
-- search goes on by lines for which `are` holds.
abbrev pub SimplifiesRootIfUnpropagated : {A : Type 0} → (List Line → Type 0) → Context A → Context A →
    Result (Unit {0}) Conflict → Type 0
SimplifiesRootIfUnpropagated are x y end = GoesOnByLines
    (λ lines. (IsRootUnpropagated (view x) → SimplifiesRoot lines (view x) (view y) end)
    × ((IsRootUnpropagated (view x) → ⊥) → lines ≡ []) × are lines) x y

-- The root level is simplified, and the step goes on from there: the lines are those of both, in turn.
pub record SimplifiesThenSteps {A : Type 0} (lines : List Line) (x z : Context A) : Type 0 where
  pub settled : Context A
  pub end : Result (Unit {0}) Conflict
  pub first : List Line
  pub rest : List Line
  pub parts : lines ≡ first ++ rest
  pub simplifies_root : SimplifiesRoot first (view x) (view settled) end
  pub steps : StepsTo (λ ls. ls ≡ rest) settled z

-- a step that begins while literals of the root level are still to be propagated simplifies the root level first
abbrev pub SimplifiesRootFirst : {A : Type 0} → List Line → Context A → Context A → Type 0
SimplifiesRootFirst lines x z = IsRootUnpropagated (view x) → SimplifiesThenSteps lines x z

-- a step that begins with no literal of the root level left to be propagated, and after which the search goes on, deletes nothing: it
-- adds what was learned
abbrev pub LearnsAlone : {A : Type 0} → List Line → Context A → Context A → Type 0
LearnsAlone lines x z = (IsRootUnpropagated (view x) → ⊥) → AddOneIfUnknown lines z

-- such a step was made, by lines for which `are` holds
abbrev pub SimplifiesAndSteps : {A : Type 0} → (List Line → Type 0) → Context A → Context A → Type 0
SimplifiesAndSteps are x y = MakesStep (λ lines. SimplifiesRootFirst lines x y × LearnsAlone lines x y × are lines) x y

-- A search may be simplified: at level 0 propagation came to its end, and each literal of the trail is a unit.
pub record CanSimplify {A : Type 0} (x : Context A) : Type 0 where
  pub ready : IsReady x
  pub undecided : x.trail.decisions ≡ []
  pub complete : IsComplete (kept (view x)) x.trail.literals
  pub propagated : IsPropagatedToEnd (view x)
  pub proved : (k : ℕ) → k < length x.trail.literals → (node_at (view x) k).reason ≡ reason.Unit

-- At level 0 all of the trail is propagated and proved, and no kept clause names a variable that has a value.
pub record IsRootSimplified (s : View) : Type 0 where
  pub undecided : s.decisions ≡ []
  pub propagated : IsPropagatedToEnd s
  pub proved : (k : ℕ) → k < length s.trail → (node_at s k).reason ≡ reason.Unit
  pub unassigned : (c : Clause) → c ∈ kept s → (l : Literal) → l ∈ c →
      slice_index_or s.values (variable_of l) None ≡ None
