-- Which error a step returns.
use Rattle.std.proofs.Common.{List, [], length, inl, inr, ⊎_elim, sym, subst, ◌≡◌, ◌≢◌, ℕ, refl, ◌∙◌}
use Rattle.varisat_theory.specs.promises.Membership.{◌∈◌}
use Rattle.varisat_theory.specs.promises.Literals.{Literal, Clause, opposite}
use Rattle.varisat_theory.specs.promises.Propagation.{IsComplete}
use Rattle.varisat_theory.specs.promises.Derivations.{Line}
use Rattle.varisat_prop.specs.View.{View, kept, WellFormed, GrowsTrail}
use Rattle.varisat_prop.proofs.trails.TrailValues.{on-trail, trail-true}
use Rattle.varisat_search.specs.Steps.{IsTotal, assignment_of}
use Rattle.varisat_search.specs.Seen.{search_of}
use Rattle.varisat_search.proofs.stepping.PropagatedBeforeDecisions.{makes-true, one-true}
use Rattle.varisat_search.proofs.stepping.ViewSearch.{fixed_from, seen_clauses}
use Rattle.varisat_search.proofs.stepping.StepWithoutLines.{grows_prove}
use Rattle.varisat_theory.specs.inside.Outcomes.{SearchOutcome, Sat, Steps}
use Rattle.varisat_theory.proofs.steps.SearchFits.{clause_in}
use Rattle.varisat_theory.proofs.steps.StepEnds.{model_is_found}
use Rattle.varisat_theory.proofs.steps.StepAccounts.{part_step}
use Rattle.std.specs.Prelude.{Result, Ok, Err}
use Rattle.std.specs.Result.{IsErr, IfErr, IsErrAnd}
use Rattle.varisat_clause.specs.declared.alloc.StoreError.{StoreError}
use Rattle.varisat_theory.specs.promises.Journals.{Entry}
use Rattle.varisat_steps.specs.declared.tracer.TraceError.{TraceError}
use Rattle.varisat_steps.specs.Traces.{BreaksOff, faults_of}
use Rattle.varisat_steps.proofs.Broken.{passed-on}
use Rattle.varisat_search.specs.declared.error.StepError.{StepError}
use Rattle.varisat_search.specs.declared.context.Context.{Context}
use Rattle.varisat_search.specs.StepErrors.{step_error_of_store, step_error_of_trace, step_faults, HasNoRoom, EndsStep}
use Rattle.varisat_search.specs.Contexts.{KeepsSchedule}
use Rattle.varisat_search.proofs.stepping.Frames.{schedule-through}
use Rattle.varisat_clause.specs.declared.alloc.StoreError.TheVariants as store
use Rattle.varisat_steps.specs.declared.tracer.TraceError.TheVariants as trace
use Rattle.varisat_search.specs.declared.error.StepError.TheVariants as step

-- The lines of `conflict_step`.

-- a model was found
pub model-steps : (s : View) → WellFormed s → IsComplete (kept s) s.trail → IsTotal s → Steps (search_of s) (search_of s) (Sat (assignment_of s)) []
model-steps s w q o =
    model_is_found (search_of s) s.trail (assignment_of s) (
      λ l h. on-trail s w l (fixed_from s w l h).0,
      subst (λ P. (c : Clause) × (c ∈ P) × ((m : Literal) → m ∈ c → opposite m ∈ s.trail) → ⊥) (sym (seen_clauses s)) q.no_false,
      λ k h l m.
          let inside : k.clause ∈ kept s = subst (λ P. k.clause ∈ P) (seen_clauses s) (clause_in (search_of s).kept k h) in
          ⊎_elim (λ t. inl (on-trail s w l t)) (λ t. inr (on-trail s w (opposite l) t)) (one-true s l (o k.clause inside l m)),
    )
    (λ l h. makes-true s l (trail-true s w l h))

-- the search went on before
pub steps-after : (s u t : View) (v : SearchOutcome) (lines : List Line) → WellFormed s → WellFormed u → GrowsTrail s u →
    Steps (search_of u) (search_of t) v lines → Steps (search_of s) (search_of t) v lines
steps-after s u t v lines w x g p = part_step (search_of s) (search_of u) (search_of t) v [] lines (grows_prove s u w x g) p

if-err : {X E : Type 0} (r : Result X E) (Q P : E → Type 0) → IsErr r × IsErrAnd r Q → ((e : E) → Q e → P e) → IfErr r P
if-err (Ok x) Q P (a, b) f = tt
if-err (Err e) Q P (a, b) f = f e b

-- a step says that the store is full only where the store said it
store-full : (s : StoreError) → step_error_of_store s ≡ step.Full → s ≡ store.Full
store-full store.Full e = refl
store-full store.Memory e = absurd (let z : step.Memory ≡ step.Full = e in cc)

pub if-full : {X : Type 0} (r : Result X StepError) (s : StoreError) (P : Type 0) → IsErr r × IsErrAnd r (λ e. e ≡ step_error_of_store s) →
    (s ≡ store.Full → P) → IfErr r (λ e. e ≡ step.Full → P)
if-full r s P h f = if-err r (λ e. e ≡ step_error_of_store s) (λ e. e ≡ step.Full → P) h (λ e p q. f (store-full s (sym p ∙ q)))

-- a step with another error
pub ends-unfilled : {A : Type 0} {x y : Context A} (r : Result (Unit {0}) StepError) (e : StepError) → IsErr r × IsErrAnd r (λ z. z ≡ e) →
    e ≢ step.Full → KeepsSchedule x y → EndsStep r x y
ends-unfilled {x = x} {y = y} r e h n k = record {
  schedule = k;
  full = passed-on r e (λ z. z ≡ step.Full → HasNoRoom y × (length y.assignment.current ≡ length x.assignment.current)) h (λ f. absurd (n f));
}

pub memory-unfilled : step.Memory ≢ step.Full
memory-unfilled q = let z : step.Memory ≡ step.Full = q in cc

-- a step that goes on from another context with as many variables
pub ends-after : {A : Type 0} {x y z : Context A} (r : Result (Unit {0}) StepError) (e : StepError) → IsErr r × IsErrAnd r (λ z. z ≡ e) →
    KeepsSchedule x y → length y.assignment.current ≡ length x.assignment.current → EndsStep (Err e) y z → EndsStep r x z
ends-after {x = x} {z = z} r e h k n b = record {
  schedule = schedule-through k b.schedule;
  full = passed-on r e (λ s. s ≡ step.Full → HasNoRoom z × (length z.assignment.current ≡ length x.assignment.current)) h
      (λ f. let (room, same) = b.full f in (room, same ∙ n));
}

-- An error stands for as many faults as the tracer's that it comes from, and one of the store for none.
pub trace-faults : (e : TraceError) → faults_of e ≡ step_faults (step_error_of_trace e)
trace-faults trace.Memory = refl
trace-faults (trace.Target cause) = refl

-- and none says that the store is full
pub trace-unfilled : (e : TraceError) → step_error_of_trace e ≢ step.Full
trace-unfilled trace.Memory q = let z : step.Memory ≡ step.Full = q in cc
trace-unfilled (trace.Target cause) q = let z : step.Target cause ≡ step.Full = q in cc

store-faults : (s : StoreError) → 0 ≡ step_faults (step_error_of_store s)
store-faults store.Full = refl
store-faults store.Memory = refl

module _ {Q X : Type 0} (breaks : Q → List Entry → ℕ → Q → Type 0) (x y : Q) (r : Result X StepError) where
  pub trace-broken : (e : TraceError) → IsErr r × IsErrAnd r (λ z. z ≡ step_error_of_trace e) → BreaksOff breaks x (faults_of e) y →
      IfErr r (λ z. BreaksOff breaks x (step_faults z) y)
  trace-broken e h b =
      passed-on r (step_error_of_trace e) (λ z. BreaksOff breaks x (step_faults z) y) h (subst (λ n. BreaksOff breaks x n y) (trace-faults e) b)

  pub store-broken : (e : StoreError) → IsErr r × IsErrAnd r (λ z. z ≡ step_error_of_store e) → BreaksOff breaks x 0 y →
      IfErr r (λ z. BreaksOff breaks x (step_faults z) y)
  store-broken e h b =
      passed-on r (step_error_of_store e) (λ z. BreaksOff breaks x (step_faults z) y) h (subst (λ n. BreaksOff breaks x n y) (store-faults e) b)

  pub memory-broken : IsErr r × IsErrAnd r (λ z. z ≡ step.Memory) → BreaksOff breaks x 0 y → IfErr r (λ z. BreaksOff breaks x (step_faults z) y)
  memory-broken h b = passed-on r step.Memory (λ z. BreaksOff breaks x (step_faults z) y) h b

  pub step-passed : (e : StepError) → IsErr r × IsErrAnd r (λ z. z ≡ e) → BreaksOff breaks x (step_faults e) y →
      IfErr r (λ z. BreaksOff breaks x (step_faults z) y)
  step-passed e h b = passed-on r e (λ z. BreaksOff breaks x (step_faults z) y) h b
