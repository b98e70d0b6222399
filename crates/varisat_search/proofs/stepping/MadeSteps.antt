-- A step is made over what comes before it: the root level is simplified, or propagation and decisions up to a conflict or to an end.
use Rattle.std.proofs.Common.{◌≡◌, List, [], ◌++◌, ◌⊎◌, ⊎_elim, inl, inr, refl, ap, ◌∙◌, subst}
use Rattle.varisat_theory.specs.promises.Literals.{Literal}
use Rattle.varisat_steps.specs.Traces.{verdict_entries}
use Rattle.varisat_theory.specs.promises.Derivations.{Line}
use Rattle.varisat_theory.specs.inside.Outcomes.{Steps}
use Rattle.varisat_prop.specs.View.{View, GrowsTrail}
use Rattle.varisat_prop.proofs.views.ViewGrowth.{grows-refl}
use Rattle.varisat_vsids.specs.Activities.{Activities}
use Rattle.varisat_search.specs.declared.context.Context.{Context}
use Rattle.varisat_search.specs.declared.state.SatState.{SatState}
use Rattle.varisat_search.specs.declared.state.SatState.TheVariants as verdict
use Rattle.varisat_search.specs.declared.state.SolverState.{SolverState}
use Rattle.varisat_search.specs.AssumptionParts.{KeepsAssumptions, TakesOutImplied}
use Rattle.varisat_search.specs.Contexts.{view, IsReady}
use Rattle.varisat_search.specs.Frames.{ChangesRootSimplified, GoesForward, KeepsVariables}
use Rattle.varisat_search.specs.Progress.{outcome_at, GoesAStep, IsStepFurther, MakesStep}
use Rattle.varisat_search.specs.Seen.{search_of, outcome_of}
use Rattle.varisat_search.specs.RootSimplified.{GoesOnByLines}
use Rattle.varisat_search.specs.Steps.{SavesSome}
use Rattle.varisat_search.proofs.learning.AssumedTruths.{takes-refl}
use Rattle.varisat_search.proofs.assuming.AssumptionOutcomes.{keeps-learned}
use Rattle.varisat_search.proofs.stepping.Frames.{forward-nothing, variables-through}
use Rattle.varisat_search.proofs.stepping.ReadyAfter.{ready-with}
use Rattle.varisat_search.proofs.simplifying.RootSimplified.{steps-settled, assumes-settled, rises-settled, remembers-settled}
use Rattle.varisat_search.proofs.stepping.StepErrors.{steps-after}
use Rattle.varisat_search.proofs.stepping.StepRanks.{rises-after, remembers-grown}

-- the lines are so in another way too
goes-are : {A : Type 0} (x y : Context A) (P Q : List Line → Type 0) →
    ((lines : List Line) → Steps (search_of (view x)) (search_of (view y)) (outcome_at y) lines → P lines → Q lines) → GoesAStep P x y → GoesAStep Q x y
goes-are x y P Q are g = record {
  ready = g.ready;
  steps = let (lines, p, i) = g.steps in (lines, p, are lines p i);
  rises = g.rises;
  keeps = g.keeps;
  state = g.state;
}

pub made-are : {A : Type 0} (x y : Context A) (P Q : List Line → Type 0) → ((lines : List Line) → P lines → Q lines) → MakesStep P x y → MakesStep Q x y
made-are x y P Q are m = record { goes = goes-are x y P Q (λ lines p i. are lines i) m.goes; assumes = m.assumes; last = m.last }

-- what its lines lead to is a part of how they are
pub made-with : {A : Type 0} (x y : Context A) (P : List Line → Type 0) → MakesStep P x y →
    MakesStep (λ lines. Steps (search_of (view x)) (search_of (view y)) (outcome_at y) lines × P lines) x y
made-with x y P m = record {
  goes = goes-are x y P (λ lines. Steps (search_of (view x)) (search_of (view y)) (outcome_at y) lines × P lines) (λ lines p i. (p, i)) m.goes;
  assumes = m.assumes;
  last = m.last;
}

-- a step that learned has no core
pub no-core-entry : (s : View) (core : List Literal) (b : SatState) → (b ≡ verdict.Unknown) ⊎ (b ≡ verdict.Unsat) → verdict_entries (outcome_of s core b) ≡ []
no-core-entry s core b o = ⊎_elim (λ e. ap (λ c. verdict_entries (outcome_of s core c)) e) (λ e. ap (λ c. verdict_entries (outcome_of s core c)) e) o

pub learned-no-core : (b : SatState) → (b ≡ verdict.Unknown) ⊎ (b ≡ verdict.Unsat) → b ≡ verdict.UnsatUnderAssumptions → ⊥
learned-no-core b (inl e) u = cc
learned-no-core b (inr e) u = cc

-- 1. Propagation and decisions, from x to y.

pub record Finds {A : Type 0} (x y : Context A) : Type 0 where
  pub ready : IsReady y
  pub grows : GrowsTrail (view x) (view y)
  pub taken : TakesOutImplied (view x) x.assumptions y.assumptions
  pub forward : GoesForward x y

finds-refl : {A : Type 0} (x : Context A) → IsReady x → Finds x x
finds-refl x r = record {
  ready = r;
  grows = grows-refl (view x);
  taken = takes-refl (view x) x.assumptions;
  forward = forward-nothing x;
}

module _ {A : Type 0} (x y : Context A) (r : IsReady x) (f : Finds x y) where
  still : KeepsVariables x y
  still = record { decidable = f.forward.decidable; decay = ap (λ (a : Activities). a.decay) f.forward.activities; count = f.grows.count }

  -- They come to an end, with the verdict b.
  abbrev ended : SatState → Context A
  ended b = record y { solver_state = record y.solver_state { sat_state = b } }

  pub made-ended : (b : SatState) (P : List Line → Type 0) → P [] → (b ≡ verdict.Unknown → ⊥) →
      Steps (search_of (view y)) (search_of (view y)) (outcome_of (view y) y.assumptions.failed_core b) [] →
      KeepsAssumptions (search_of (view x)) (outcome_of (view y) y.assumptions.failed_core b) x.assumptions y.assumptions → MakesStep P x (ended b)
  made-ended b P none known steps assumes = record {
    goes = record {
      ready = ready-with y (ended b) f.ready refl refl refl f.ready.propagated f.ready.decidable f.ready.assumed f.ready.assumable;
      steps = ([], steps-after (view x) (view y) (view y) (outcome_of (view y) y.assumptions.failed_core b) [] r.well f.ready.well f.grows steps, none);
      rises = λ e. absurd (known e);
      keeps = record { decidable = still.decidable; decay = still.decay; count = still.count };
      state = ap (λ (a : SolverState). record a { sat_state = b }) f.forward.state;
    };
    assumes = assumes;
    last = remembers-grown (view x) (view y) x.assignment.last y.assignment.last f.ready.well f.grows (inl f.forward.last);
  }

  -- A clause is learned after them.
  pub made-learned : (z : Context A) (P : List Line → Type 0) → IsStepFurther P y z → SavesSome (view y) y.assignment.last z.assignment.last → MakesStep P x z
  made-learned z P e saves =
      let g = e.goes in
      let (lines, p, i) = g.steps in
      record {
        goes = record {
          ready = g.ready;
          steps = (lines, steps-after (view x) (view y) (view z) (outcome_at z) lines r.well f.ready.well f.grows p, i);
          rises = λ u. rises-after (view x) (view y) (view z) r.well f.ready.well g.ready.well f.grows g.keeps.count (g.rises u);
          keeps = variables-through still g.keeps;
          state = g.state ∙ ap (λ (a : SolverState). record a { sat_state = z.solver_state.sat_state }) f.forward.state;
        };
        assumes = keeps-learned (view x) (view z) x.assumptions y.assumptions z.assumptions z.assumptions.failed_core z.solver_state.sat_state
            r.well f.taken e.assumptions e.known;
        last = remembers-grown (view x) (view y) x.assignment.last z.assignment.last f.ready.well f.grows
            (subst (λ xs. SavesSome (view y) xs z.assignment.last) f.forward.last saves);
      }

-- a clause is learned at once
pub made-at-once : {A : Type 0} (y z : Context A) (P : List Line → Type 0) → IsReady y → IsStepFurther P y z →
    SavesSome (view y) y.assignment.last z.assignment.last → MakesStep P y z
made-at-once y z P r e saves = made-learned y y r (finds-refl y r) z P e saves

-- 2. The root level is simplified, from x to y.

pub made-settled : {A : Type 0} (x y z : Context A) (P Q R : List Line → Type 0) →
    ((first more : List Line) → P first → Q more → R (first ++ more)) → IsReady x → GoesOnByLines P x y →
    ChangesRootSimplified x y → MakesStep Q y z → MakesStep R x z
made-settled {A} x y z P Q R join r a k m =
    let v = outcome_at z in
    let g = m.goes in
    let (lines, p, i) = g.steps in
    record {
      goes = record {
        ready = g.ready;
        steps = steps-settled x y P a (view z) v lines Q R join p i;
        rises = λ u. rises-settled x y P a (view z) r g.ready.well g.keeps.count (g.rises u);
        keeps = variables-through
            (record { decidable = a.decidable; decay = ap (λ (c : Context A). c.vsids.decay) k; count = a.extends.count })
            g.keeps;
        state = g.state ∙ ap (λ (c : Context A). record c.solver_state { sat_state = z.solver_state.sat_state }) k;
      };
      assumes = assumes-settled x y P a v z.assumptions (ap (λ (c : Context A). c.assumptions) k) m.assumes;
      last = remembers-settled x y P a z.assignment.last m.last;
    }
