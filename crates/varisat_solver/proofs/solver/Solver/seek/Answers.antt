use Rattle.std.proofs.Common.{◌≡◌, ◌∙◌, ◌+◌, ◌-◌, ◌<◌, ◌≤◌, ℕ, arith, Result, Bool, Ok, Err, Option, Some, None, true, false, not, length, ⊎_elim, refl, sym, ap, subst}
use Rattle.std.proofs.lemmas.Bool.{cases_lt}
use Rattle.varisat_search.specs.declared.context.Context.{Context}
use Rattle.varisat_search.specs.declared.state.SatState.TheVariants as verdict
use Rattle.varisat_search.specs.declared.state.SolverState.{SolverState}
use Rattle.varisat_search.specs.Contexts.{view}
use Rattle.varisat_schedule.specs.CallSteps.{steps_since}
use Rattle.varisat_tracer.specs.inside.TracerLaws.{checked-runs}
use Rattle.varisat_solver.specs.promises.Budgets.{returned_verdict, CountsSteps}
use Rattle.varisat_solver.specs.promises.States.{State, Ledger, Unknown}
use Rattle.varisat_tracer.specs.inside.Tracing.{TracerState, tracer_state, BreaksProof}
use Rattle.varisat_solver.specs.promises.OpenProofs.{OpenProof, ProofFits, GoesOnWriting, GoesOnFailing, opened_state}
use Rattle.varisat_solver.specs.promises.Targets.{WritesUpTo}
use Rattle.varisat_solver.proofs.entries.Targets.{writes-nothing, refused-unwritten, logs-writes, logs-refused, breaks-writes, refused-full, same-error}
use Rattle.varisat_solver.proofs.entries.OpenProofs.{proof-goes-on, broken-open, broken-on}
use Rattle.varisat_solver.specs.inside.Searches.{answer_at, Turn, turn_of, ComesTo, ComesOn, FindsVerdict, FailsStep}
use Rattle.varisat_names.specs.promises.Variables.{Tables}
use Rattle.varisat_proof.specs.promises.Calls.{CheckerState}
use Rattle.varisat_proof.specs.promises.Proving.{ProofParts}
use Rattle.varisat_solver.specs.inside.Spaces.{Spaces, SpacesFit}
use Rattle.varisat_solver.specs.inside.Representations.{Represents, RepresentsSome, spaces_of, spaces_with, undecided_spaces}
use Rattle.varisat_solver.specs.promises.Calls.{by_state, with_steps, Searches, IsSpent, IsValid, ReturnsVerdict}
use Rattle.varisat_solver.specs.declared.solver.SolverError.{SolverError}
use Rattle.varisat_solver.specs.declared.solver.SolverError.TheVariants.{Interrupted, ClauseStoreFull, Invalid}
use Rattle.varisat_search.specs.declared.error.StepError.{StepError}
use Rattle.varisat_search.specs.StepErrors.{step_faults}
use Rattle.varisat_solver.specs.promises.Refusals.{step_refusal, returned_faults}
use Rattle.varisat_solver.proofs.calls.CallStates.{ledger-is, more-since, represents-valid, proof-fits, broken, broken-invalid, searches-broken}
use Rattle.varisat_solver.proofs.accepting.AcceptClause.{few-made}
use Rattle.varisat_solver.specs.inside.Changes.{invalidated}
use Rattle.varisat_solver.proofs.calls.SettingsCalls.{summary_of, represents-same}
use Rattle.varisat_solver.proofs.calls.SolverCalls.{counted-call, was-unknown, sat-model, sat-right, known-logged, false-right, false-core, answered-true, answered-false, answered-none}
use Rattle.varisat_solver.proofs.entries.LoggedEntries.{lists-ended, lists-on}
use Rattle.varisat_solver.proofs.steps.SolverSteps.{unknown-undecided, after-solve, flags-after, comes-satisfiable, comes-unsatisfiable, comes-fits, comes-verdict, comes-interrupted, interrupted-still}
use Rattle.varisat_solver.proofs.solver.Solver.seek.Given.{Over}
use Rattle.varisat_solver.proofs.solver.Solver.seek.Goals.{In-Ok-Some, In-Ok-None}
use Rattle.varisat_solver.proofs.calls.ChangeEnds.{represents-invalid, invalid-logged}
use Rattle.varisat_solver.proofs.solver.Solver.seek.Goals as goal

-- 1. What the search comes to.

-- The solver x became y as its tracer p became q, and it represented the state.
record Sought {A : Type 0} (p q : TracerState) (started : Bool) (changed_at : ℕ) (x y : Context A) (found : Option Bool) (s : State) : Type 0 where
  represents : Represents (summary_of p started changed_at x) s
  valid : not x.solver_state.state_is_invalid ≡ true
  unknown : x.solver_state.sat_state ≡ verdict.Unknown
  finds : FindsVerdict p q x y found
  config : y.solver_config ≡ x.solver_config
  low : changed_at ≤ x.schedule.steps

module _ {A : Type 0} {p q : TracerState} {started : Bool} {changed_at : ℕ} {x y : Context A} {found : Option Bool} {s : State}
    (d : Sought p q started changed_at x y found s) where
  n : ℕ
  n = y.schedule.steps

  comes : ComesTo (turn_of x) (steps_since x.schedule y.schedule) s p.proof q.proof (spaces_with q.tables q.proof.checker y)
  comes = d.finds.represents s (subst (λ b. SpacesFit (spaces_of p.tables p.proof.checker (view x) x.assumptions b) s) d.unknown (d.represents.fits d.valid))

  made : steps_since x.schedule y.schedule ≡ y.schedule.steps - s.ledger.steps
  made = ap (λ (l : Ledger). y.schedule.steps - l.steps) (sym d.represents.ledger)

  turn : ((turn_of x).interval ≡ s.ledger.settings.reduce_locals_interval) × ((turn_of x).number ≡ s.ledger.steps)
  turn = (ap (λ (l : Ledger). l.settings.reduce_locals_interval) (sym d.represents.ledger), ap (λ (l : Ledger). l.steps) (sym d.represents.ledger))

  still-valid : not y.solver_state.state_is_invalid ≡ true
  still-valid = ap (λ (b : SolverState). not b.state_is_invalid) d.finds.state ∙ d.valid

  since-after : {r : Result Bool SolverError} → CountsSteps (length s.counted) s.ledger.settings.max_steps s.ledger.since s.ledger.steps
      y.schedule.steps r → s.ledger.since + (y.schedule.steps - s.ledger.steps) ≡ y.schedule.steps - changed_at
  since-after k =
      let since = ap (λ (l : Ledger). l.since) d.represents.ledger in
      let steps = ap (λ (l : Ledger). l.steps) d.represents.ledger in
      let low = d.low in
      let e = k.count in
      more-since changed_at s.ledger.steps y.schedule.steps s.ledger.since (omega (arith, low, steps)) (omega (arith, e)) (omega (arith, since, steps))

  goes-on : (now : Option OpenProof) × GoesOnWriting s.proof now × ProofFits q.proof.opened s.variables comes.logged now
  goes-on = proof-goes-on p.proof q.proof s.variables s.variables s.logged comes.logged s.proof (proof-fits d.represents d.valid) refl comes.proof

-- The same over plain values: what the search came to, and the proof with further bytes.
module _ {A : Type 0} {p q : TracerState} {started : Bool} {changed_at : ℕ} {x y : Context A} {found : Option Bool} {s : State}
    (d : Sought p q started changed_at x y found s)
    (reached : ComesTo (turn_of x) (steps_since x.schedule y.schedule) s p.proof q.proof (spaces_with q.tables q.proof.checker y))
    (now : Option OpenProof) (grows : GoesOnWriting s.proof now) (fit : ProofFits q.proof.opened s.variables reached.logged now) where
  abbrev after : State
  after = after-solve reached.logged reached.verdict y.schedule.steps now (length y.clause_alloc.words) s

  was-valid : IsValid s
  was-valid = represents-valid (summary_of p started changed_at x) s d.represents d.valid

  was-undecided : s.verdict ≡ Unknown
  was-undecided = was-unknown (summary_of p started changed_at x) s d.represents d.valid d.unknown

  -- the solver represents the state that it came to
  represents-after : {r : Result Bool SolverError} → CountsSteps (length s.counted) s.ledger.settings.max_steps s.ledger.since s.ledger.steps
      y.schedule.steps r → Represents (summary_of q started changed_at y) after
  represents-after k = record {
    ledger = ledger-is _ _ _ _ _ _ _ (ap (λ (l : Ledger). l.valid) d.represents.ledger
        ∙ ap (λ (b : SolverState). not b.state_is_invalid) (sym d.finds.state)) (ap (λ (l : Ledger). l.started) d.represents.ledger) refl (since-after d k)
        (ap (λ (l : Ledger). l.settings) d.represents.ledger ∙ sym d.config)
        (ap (λ (l : Ledger). l.checking) d.represents.ledger
        ∙ sym (checked-runs p.proof.checker q.proof.checker d.finds.logged.0 d.finds.logged.1.checked));
    fits = λ _. comes-fits q.tables y reached y.schedule.steps now (length y.clause_alloc.words);
    words = refl;
    same = fit.same;
    written = λ _. fit.written;
    flags = λ _. flags-after s reached.logged reached.verdict y.schedule.steps now (length y.clause_alloc.words) (d.represents.flags d.valid)
        (lists-on s.logged reached.logged reached.more (lists-ended reached.verdict reached.more.entries reached.ends)) grows;
    bounded = λ _. d.finds.kept.bounded;
  }

found-with : {A : Type 0} {p q : TracerState} {started : Bool} {changed_at : ℕ} {x y : Context A} {b : Bool} {s : State}
    (d : Sought p q started changed_at x y (Some b) s)
    (reached : ComesTo (turn_of x) (steps_since x.schedule y.schedule) s p.proof q.proof (spaces_with q.tables q.proof.checker y))
    (now : Option OpenProof) (grows : GoesOnWriting s.proof now) (fit : ProofFits q.proof.opened s.variables reached.logged now) →
    CountsSteps (length s.counted) s.ledger.settings.max_steps s.ledger.since s.ledger.steps y.schedule.steps (Ok b) → (t : State)
    × ReturnsVerdict by_state s b t × Represents (summary_of q started changed_at y) t
found-with {q = q} {y = y} {b = b} d reached now grows fit k = (
  after d reached now grows fit,
  comes-verdict q.tables y reached y.schedule.steps now (length y.clause_alloc.words) b (was-valid d reached now grows fit) (was-undecided d reached now grows fit)
      (turn d) k (sym d.finds.answer) (made d) grows,
  represents-after d reached now grows fit k,
)

-- a verdict was found
found-call : {A : Type 0} {p q : TracerState} {started : Bool} {changed_at : ℕ} {x y : Context A} {b : Bool} {s : State}
    (d : Sought p q started changed_at x y (Some b) s) → CountsSteps
    (length s.counted) s.ledger.settings.max_steps s.ledger.since s.ledger.steps y.schedule.steps (Ok b) → (t : State) × ReturnsVerdict by_state s b t
    × Represents (summary_of q started changed_at y) t
found-call d k = found-with d (comes d) (goes-on d).0 (goes-on d).1 (goes-on d).2 k

moved-with : {A : Type 0} {p q : TracerState} {started : Bool} {changed_at : ℕ} {x y : Context A} {s : State}
    (d : Sought p q started changed_at x y None s)
    (reached : ComesTo (turn_of x) (steps_since x.schedule y.schedule) s p.proof q.proof (spaces_with q.tables q.proof.checker y))
    (now : Option OpenProof) (grows : GoesOnWriting s.proof now) (fit : ProofFits q.proof.opened s.variables reached.logged now) →
    CountsSteps (length s.counted) s.ledger.settings.max_steps s.ledger.since s.ledger.steps y.schedule.steps (Err Interrupted) →
    s.ledger.steps < y.schedule.steps → (t : State) × IsSpent by_state s t × Represents (summary_of q started changed_at y) t
moved-with {q = q} {y = y} {s = s} d reached now grows fit k h =
    let t : State = after d reached now grows fit in
    let unknown = unknown-undecided q.tables q.proof.checker y t
    (subst (λ b. SpacesFit (spaces_of q.tables q.proof.checker (view y) y.assumptions b) t)
    (answered-none y.solver_state.sat_state (sym d.finds.answer))
    (comes-fits q.tables y reached y.schedule.steps now (length y.clause_alloc.words))) in (
      t,
      comes-interrupted q.tables y reached y.schedule.steps now (length y.clause_alloc.words) (was-valid d reached now grows fit) (was-undecided d reached now grows fit)
          (turn d) k unknown (made d) (λ e. omega (arith, h, e)) grows,
      represents-after d reached now grows fit k,
    )

-- the steps were spent, and some were made
moved-call : {A : Type 0} {p q : TracerState} {started : Bool} {changed_at : ℕ} {x y : Context A} {s : State}
    (d : Sought p q started changed_at x y None s) → CountsSteps
    (length s.counted) s.ledger.settings.max_steps s.ledger.since s.ledger.steps y.schedule.steps (Err Interrupted) →
    s.ledger.steps < y.schedule.steps → (t : State) × IsSpent by_state s t × Represents (summary_of q started changed_at y) t
moved-call d k h = moved-with d (comes d) (goes-on d).0 (goes-on d).1 (goes-on d).2 k h

-- none was made
still-call : {A : Type 0} {p q : TracerState} {started : Bool} {changed_at : ℕ} {x y : Context A} {s : State}
    (d : Sought p q started changed_at x y None s) → CountsSteps
    (length s.counted) s.ledger.settings.max_steps s.ledger.since s.ledger.steps y.schedule.steps (Err Interrupted) →
    y.schedule.steps ≡ s.ledger.steps → (t : State) × IsSpent by_state s t × Represents (summary_of q started changed_at y) t
still-call {A} {p} {q} {started} {changed_at} {x} {y} {s} d k e =
    let (same, parts) = d.finds.still (e ∙ ap (λ (l : Ledger). l.steps) d.represents.ledger) in (
      s,
      interrupted-still s (represents-valid (summary_of p started changed_at x) s d.represents d.valid)
          (was-unknown (summary_of p started changed_at x) s d.represents d.valid d.unknown)
          (subst (λ m. CountsSteps (length s.counted) s.ledger.settings.max_steps s.ledger.since s.ledger.steps m (Err Interrupted)) e k),
      subst (λ (z : Context A). Represents (summary_of q started changed_at z) s) (sym same)
          (subst (λ (t : TracerState). Represents (summary_of t started changed_at x) s) (sym parts) d.represents),
    )

spent-call : {A : Type 0} {p q : TracerState} {started : Bool} {changed_at : ℕ} {x y : Context A} {s : State}
    (d : Sought p q started changed_at x y None s) → CountsSteps
    (length s.counted) s.ledger.settings.max_steps s.ledger.since s.ledger.steps y.schedule.steps (Err Interrupted) → (t : State)
    × IsSpent by_state s t × Represents (summary_of q started changed_at y) t
spent-call {A} {p} {q} {started} {changed_at} {x} {y} {s} d k =
    ⊎_elim (λ (h : s.ledger.steps < y.schedule.steps). moved-call d k h)
    (λ (h : y.schedule.steps ≤ s.ledger.steps). still-call d k (let e = k.count in omega (arith, e, h))) (cases_lt s.ledger.steps y.schedule.steps)

-- 2. The answers.

sought-some : (g : Over) (c : In-Ok-Some g) (s : State) → Represents
    (summary_of (tracer_state c.self.inside.tracer) c.self.inside.started c.self.inside.changed_at c.self.inside.ctx) s →
    Sought (tracer_state c.self.inside.tracer) (tracer_state c.find_verdict.new.tracer) c.self.inside.started c.self.inside.changed_at c.self.inside.ctx
    c.find_verdict.new.ctx (Some c.in-Ok-Some.found) s
sought-some g c s st = record {
  represents = st;
  valid = ap not c.in_ok-ensure_valid.ensures;
  unknown = c.in-Unknown.is;
  finds = rw c.in-Ok-Some.field-0-is at c.in-Ok-Some.ensures.found;
  config = c.find_verdict.ensures.config;
  low = (c.self.invariant c.in_ok-ensure_valid.ensures).counts.low;
}

sought-none : (g : Over) (c : In-Ok-None g) (s : State) → Represents
    (summary_of (tracer_state c.self.inside.tracer) c.self.inside.started c.self.inside.changed_at c.self.inside.ctx) s →
    Sought (tracer_state c.self.inside.tracer) (tracer_state c.find_verdict.new.tracer) c.self.inside.started c.self.inside.changed_at c.self.inside.ctx
    c.find_verdict.new.ctx None s
sought-none g c s st = record {
  represents = st;
  valid = ap not c.in_ok-ensure_valid.ensures;
  unknown = c.in-Unknown.is;
  finds = rw c.in-Ok-None.field-0-is at c.in-Ok-None.ensures.found;
  config = c.find_verdict.ensures.config;
  low = (c.self.invariant c.in_ok-ensure_valid.ensures).counts.low;
}

-- some state is represented before the search
begins : {A : Type 0} (t : Tables) (checker : Option CheckerState) (started : Bool) (x : Context A) → x.solver_state.sat_state ≡ verdict.Unknown →
    RepresentsSome (spaces_with t checker x) started → RepresentsSome (undecided_spaces t checker x) started
begins t checker started x e f = subst (λ b. RepresentsSome (spaces_of t checker (view x) x.assumptions b) started) e f

-- and after what it came to
on : {at : Turn} {n : ℕ} {before after : Spaces} {p q : ProofParts} {started : Bool} → ComesOn at n before after p q → RepresentsSome before started →
    RepresentsSome after started
on comes (s, fits, fresh) = let c = comes s fits in (_, c.fits, fresh)

pub find_verdict-requires : goal.find_verdict-requires
find_verdict-requires g c =
    let i = c.self.invariant c.in_ok-ensure_valid.ensures in
    let (s, fits, fresh) = begins c.self.inside.tracer.tables c.self.inside.tracer.proof.checker c.self.inside.started c.self.inside.ctx
    c.in-Unknown.is i.represents in
    record { valid = i.kept; logs = i.logs; represents = (s, fits); unknown = c.in-Unknown.is }

pub invariant_of-self : goal.invariant_of-self
invariant_of-self g c _ =
    let f = c.in-Ok-Some.ensures.found in
    record {
      represents = on f.represents (begins c.self.inside.tracer.tables c.self.inside.tracer.proof.checker c.self.inside.started c.self.inside.ctx
          c.in-Unknown.is (c.self.invariant c.in_ok-ensure_valid.ensures).represents);
      kept = f.kept;
      logs = f.logs;
      counts =
          c.in-Ok-Some.ensures.since c.self.inside.changed_at (c.self.invariant c.in_ok-ensure_valid.ensures).counts;
    }

pub invariant_of-self-in-Ok-None : goal.invariant_of-self-in-Ok-None
invariant_of-self-in-Ok-None g c _ =
    let f = c.in-Ok-None.ensures.found in
    record {
      represents = on f.represents (begins c.self.inside.tracer.tables c.self.inside.tracer.proof.checker c.self.inside.started c.self.inside.ctx
          c.in-Unknown.is (c.self.invariant c.in_ok-ensure_valid.ensures).represents);
      kept = f.kept;
      logs = f.logs;
      counts =
          c.in-Ok-None.ensures.since c.self.inside.changed_at (c.self.invariant c.in_ok-ensure_valid.ensures).counts;
    }

pub returns-in-Sat-clause-call : goal.returns-in-Sat-clause-call
returns-in-Sat-clause-call g c s st =
    let q = rw (← c.self.view_is) at st in
    (s, known-logged _ s true q (ap not c.in_ok-ensure_valid.ensures) (ap answer_at c.in-Sat.is), st)

pub returns-in-Sat-clause-satisfiable : goal.returns-in-Sat-clause-satisfiable
returns-in-Sat-clause-satisfiable g c e s st = let q = rw (← c.self.view_is) at st in sat-right _ s q (ap not c.in_ok-ensure_valid.ensures) c.in-Sat.is

pub returns-in-Sat-clause-model : goal.returns-in-Sat-clause-model
returns-in-Sat-clause-model g c e s st =
    let q = rw (← c.self.view_is) at st in
    let r = sat-model _ s q (ap not c.in_ok-ensure_valid.ensures) c.in-Sat.is in (_, r.0, r.1)

pub returns-in-Unsat-clause-call : goal.returns-in-Unsat-clause-call
returns-in-Unsat-clause-call g c s st = let q = rw (← c.self.view_is) at st in
    (s, known-logged _ s false q (ap not c.in_ok-ensure_valid.ensures) (answered-false _ c.in-Unsat.is), st)

pub returns-in-Unsat-clause-unsatisfiable : goal.returns-in-Unsat-clause-unsatisfiable
returns-in-Unsat-clause-unsatisfiable g c e s st = let q = rw (← c.self.view_is) at st in
    false-right _ s q (ap not c.in_ok-ensure_valid.ensures) (answered-false _ c.in-Unsat.is)

pub returns-in-Unsat-clause-core : goal.returns-in-Unsat-clause-core
returns-in-Unsat-clause-core g c e s st =
    let q = rw (← c.self.view_is) at st in
    false-core _ s q (ap not c.in_ok-ensure_valid.ensures) (answered-false _ c.in-Unsat.is)

pub returns-in-Ok-Some-clause-call : goal.returns-in-Ok-Some-clause-call
returns-in-Ok-Some-clause-call g c s st =
    let q = rw (← c.self.view_is) at st in
    found-call (sought-some g c s q)
    (counted-call _ s c.max_steps-max_steps.result c.find_verdict.new.ctx.schedule.steps (returned_verdict c.find_verdict.result)
    (Ok c.in-Ok-Some.found) q (ap not c.in_ok-ensure_valid.ensures) c.max_steps-max_steps.ensures
    (ap returned_verdict (c.in-Ok-Some.is ∙ ap Ok c.in-Ok-Some.field-0-is))
    (λ m h. c.find_verdict.ensures.counted m c.self.inside.changed_at h (c.self.invariant c.in_ok-ensure_valid.ensures).counts))

pub returns-in-Ok-Some-clause-satisfiable : goal.returns-in-Ok-Some-clause-satisfiable
returns-in-Ok-Some-clause-satisfiable g c b s st =
    let sat : c.in-Ok-Some.found ≡ true = cc in
    let d = sought-some g c s (rw (← c.self.view_is) at st) in
    comes-satisfiable c.find_verdict.new.tracer.tables c.find_verdict.new.ctx (comes d) (answered-true _ (sym d.finds.answer ∙ ap Some sat))

pub returns-in-Ok-Some-clause-unsatisfiable : goal.returns-in-Ok-Some-clause-unsatisfiable
returns-in-Ok-Some-clause-unsatisfiable g c b s st =
    let unsat : c.in-Ok-Some.found ≡ false = cc in
    let d = sought-some g c s (rw (← c.self.view_is) at st) in
    comes-unsatisfiable c.find_verdict.new.tracer.tables c.find_verdict.new.ctx (comes d) (sym d.finds.answer ∙ ap Some unsat)

pub returns-in-Ok-Some-clause-model : goal.returns-in-Ok-Some-clause-model
returns-in-Ok-Some-clause-model g c b s st =
    let f : FindsVerdict (tracer_state c.self.inside.tracer) (tracer_state c.find_verdict.new.tracer) c.self.inside.ctx c.find_verdict.new.ctx
    (Some c.in-Ok-Some.found) = rw c.in-Ok-Some.field-0-is at c.in-Ok-Some.ensures.found in
    let sat : c.in-Ok-Some.found ≡ true = cc in
    let r = sat-model _ s st (ap (λ (x : SolverState). not x.state_is_invalid) f.state ∙ ap not c.in_ok-ensure_valid.ensures)
    (answered-true _ (sym f.answer ∙ ap Some sat)) in
    (_, r.0, r.1)

pub returns-in-Ok-Some-clause-core : goal.returns-in-Ok-Some-clause-core
returns-in-Ok-Some-clause-core g c b s st =
    let f : FindsVerdict (tracer_state c.self.inside.tracer) (tracer_state c.find_verdict.new.tracer) c.self.inside.ctx c.find_verdict.new.ctx
    (Some c.in-Ok-Some.found) = rw c.in-Ok-Some.field-0-is at c.in-Ok-Some.ensures.found in
    let unsat : c.in-Ok-Some.found ≡ false = cc in
    false-core _ s st (ap (λ (x : SolverState). not x.state_is_invalid) f.state ∙ ap not c.in_ok-ensure_valid.ensures) (sym f.answer ∙ ap Some unsat)

pub returns-in-Ok-None-clause-call : goal.returns-in-Ok-None-clause-call
returns-in-Ok-None-clause-call g c s st =
    let q = rw (← c.self.view_is) at st in
    spent-call (sought-none g c s q)
    (counted-call _ s c.max_steps-max_steps.result c.find_verdict.new.ctx.schedule.steps (returned_verdict c.find_verdict.result) (Err Interrupted) q
    (ap not c.in_ok-ensure_valid.ensures) c.max_steps-max_steps.ensures (ap returned_verdict (c.in-Ok-None.is ∙ ap Ok c.in-Ok-None.field-0-is))
    (λ m h. c.find_verdict.ensures.counted m c.self.inside.changed_at h (c.self.invariant c.in_ok-ensure_valid.ensures).counts))

-- What the solver represents once the search broke off, over plain values.
module _ {A : Type 0} (p q : TracerState) (started : Bool) (changed_at : ℕ) (x y : Context A) (s : State) (error : StepError)
    (st : Represents (summary_of p started changed_at x) s) (valid : (summary_of p started changed_at x).ledger.valid ≡ true)
    (low : changed_at ≤ x.schedule.steps) (fails : FailsStep p.proof q.proof x y error)
    (counts : CountsSteps (length s.counted) s.ledger.settings.max_steps s.ledger.since s.ledger.steps y.schedule.steps (Err (step_refusal error))) where
  abbrev stopped : Option OpenProof → State
  stopped now = broken now (length y.clause_alloc.words) (with_steps y.schedule.steps s)

  represents : y.solver_config ≡ x.solver_config → (now : Option OpenProof) → q.proof.opened ≡ opened_state now →
      Represents (summary_of q started changed_at (invalidated y)) (stopped now)
  represents config now same =
      let before = ap (λ (l : Ledger). l.since) st.ledger in
      let steps = ap (λ (l : Ledger). l.steps) st.ledger in
      let count = counts.count in
      record {
        ledger = ledger-is _ _ _ _ _ _ _ refl (ap (λ (l : Ledger). l.started) st.ledger) refl
            (more-since changed_at s.ledger.steps y.schedule.steps s.ledger.since (omega (arith, low, steps)) (omega (arith, count))
            (omega (arith, before, steps))) (ap (λ (l : Ledger). l.settings) st.ledger ∙ sym config)
            (ap (λ (l : Ledger). l.checking) st.ledger ∙ sym fails.broken.2);
        words = refl;
        same = same;
        fits = λ e. absurd cc;
        written = λ e. absurd cc;
        flags = λ e. absurd cc;
        bounded = λ e. absurd cc;
      }

  searches : s.verdict ≡ Unknown → (now : Option OpenProof) → GoesOnFailing (step_faults error) s.proof now →
      Searches s (Err (step_refusal error)) (stopped now)
  searches unknown now goes = searches-broken error s (stopped now)
      (λ f. broken-open p.proof q.proof s.variables s.logged s.proof (proof-fits st valid) (subst (λ k. BreaksProof p.proof k q.proof) f fails.broken))
      unknown counts
      (broken-invalid (step_faults error) (with_steps y.schedule.steps s) now (length y.clause_alloc.words) (represents-valid _ s st valid) goes)
      (λ f. let (room, size) = fails.full f in let few = few-made (st.fits valid).0 _ s (st.fits valid).1 in omega (arith, room, size, few))

  broken-call : y.solver_config ≡ x.solver_config → s.verdict ≡ Unknown → (z : Context A) → z ≡ invalidated y → (e : SolverError) →
      e ≡ step_refusal error → (t : State) × Searches s (Err e) t × Represents (summary_of q started changed_at z) t
  broken-call config unknown z is e refusal =
      let (now, goes, same) = broken-on p.proof q.proof (step_faults error) s.proof st.same fails.broken in (
        stopped now,
        subst (λ r. Searches s (Err r) (stopped now)) (sym refusal) (searches unknown now goes),
        represents-same q started changed_at (invalidated y) z (stopped now) is (represents config now same),
      )

pub returns-in-Err-clause-call : goal.returns-in-Err-clause-call
returns-in-Err-clause-call g c s st =
    let q = rw (← c.self.view_is) at st in
    let ok = ap not c.in_ok-ensure_valid.ensures in
    let since = (c.self.invariant c.in_ok-ensure_valid.ensures).counts in
    let counts = counted-call _ s c.max_steps-max_steps.result c.find_verdict.new.ctx.schedule.steps (returned_verdict c.find_verdict.result)
    (Err (step_refusal c.in-Err.error)) q ok c.max_steps-max_steps.ensures (ap returned_verdict c.in-Err.is)
    (λ m h. c.find_verdict.ensures.counted m c.self.inside.changed_at h since) in
    broken-call (tracer_state c.self.inside.tracer) (tracer_state c.find_verdict.new.tracer) c.self.inside.started c.self.inside.changed_at
    c.self.inside.ctx c.find_verdict.new.ctx s c.in-Err.error q ok since.low c.in-Err.ensures.fails counts
    c.find_verdict.ensures.config (was-unknown _ s q ok c.in-Unknown.is)
    c.invalidate.new.ctx c.invalidate.ensures.invalid c.invalidate.result c.invalidate.ensures.logged

-- 3. What the target took.
pub returns-in-Sat-clause-target : goal.returns-in-Sat-clause-target
returns-in-Sat-clause-target g c = writes-nothing c.args.self.now.opened

pub returns-in-Sat-clause-whole : goal.returns-in-Sat-clause-whole
returns-in-Sat-clause-whole g c v = writes-nothing c.args.self.now.opened

pub returns-in-Unsat-clause-target : goal.returns-in-Unsat-clause-target
returns-in-Unsat-clause-target g c = writes-nothing c.args.self.now.opened

pub returns-in-Unsat-clause-whole : goal.returns-in-Unsat-clause-whole
returns-in-Unsat-clause-whole g c v = writes-nothing c.args.self.now.opened

pub returns-in-Ok-Some-clause-target : goal.returns-in-Ok-Some-clause-target
returns-in-Ok-Some-clause-target g c = rw (← c.self.view_is)
    (logs-writes c.self.inside.tracer.proof c.find_verdict.new.tracer.proof c.in-Ok-Some.ensures.found.logged)

pub returns-in-Ok-Some-clause-whole : goal.returns-in-Ok-Some-clause-whole
returns-in-Ok-Some-clause-whole g c v = rw (← c.self.view_is)
    (logs-writes c.self.inside.tracer.proof c.find_verdict.new.tracer.proof c.in-Ok-Some.ensures.found.logged)

pub returns-in-Ok-None-clause-target : goal.returns-in-Ok-None-clause-target
returns-in-Ok-None-clause-target g c = rw (← c.self.view_is)
    (logs-refused c.self.inside.tracer.proof c.find_verdict.new.tracer.proof Interrupted refl c.in-Ok-None.ensures.found.logged)

pub returns-in-Ok-None-clause-whole : goal.returns-in-Ok-None-clause-whole
returns-in-Ok-None-clause-whole g c v = rw (← c.self.view_is)
    (logs-writes c.self.inside.tracer.proof c.find_verdict.new.tracer.proof c.in-Ok-None.ensures.found.logged)

pub returns-in-Err-clause-target : goal.returns-in-Err-clause-target
returns-in-Err-clause-target g c =
    rw (← c.self.view_is) (subst (λ e. WritesUpTo (returned_faults e) c.self.inside.tracer.proof.opened c.find_verdict.new.tracer.proof.opened)
    (sym c.invalidate.ensures.logged)
    (breaks-writes c.self.inside.tracer.proof c.find_verdict.new.tracer.proof c.in-Err.error c.in-Err.ensures.fails.broken))

pub returns-in-Err-clause-full : goal.returns-in-Err-clause-full
returns-in-Err-clause-full g c f =
    rw c.invalidate.ensures.invalid (c.in-Err.ensures.fails.full (refused-full c.in-Err.error (sym c.invalidate.ensures.logged ∙ same-error _ ClauseStoreFull f))).0

-- 4. Which variables left.
pub returns-in-Ok-Some-clause-leaves : goal.returns-in-Ok-Some-clause-leaves
returns-in-Ok-Some-clause-leaves g c h v n = c.in-Ok-Some.ensures.found.leaves (rw (← c.self.view_is) at h) n

pub returns-in-Ok-None-clause-leaves : goal.returns-in-Ok-None-clause-leaves
returns-in-Ok-None-clause-leaves g c h v n = c.in-Ok-None.ensures.found.leaves (rw (← c.self.view_is) at h) n

pub returns-in_err-ensure_valid-clause-call : goal.returns-in_err-ensure_valid-clause-call
returns-in_err-ensure_valid-clause-call g c s st =
    let q = rw (← c.self.view_is) at st in
    let refused = invalid-logged c.from_residual.result c.in_err-ensure_valid.field-0.0 c.from_residual.ensures c.in_err-ensure_valid.ensures.0 in
    (s, subst (λ r. Searches s r s) (sym refused) (represents-invalid _ s q (ap not c.in_err-ensure_valid.ensures.1), refl), st)

pub returns-in_err-ensure_valid-clause-target : goal.returns-in_err-ensure_valid-clause-target
returns-in_err-ensure_valid-clause-target g c =
    let refused = invalid-logged c.from_residual.result c.in_err-ensure_valid.field-0.0 c.from_residual.ensures c.in_err-ensure_valid.ensures.0 in
    rw refused (refused-unwritten c.args.self.now.opened Invalid refl)

pub returns-in_err-ensure_valid-clause-whole : goal.returns-in_err-ensure_valid-clause-whole
returns-in_err-ensure_valid-clause-whole g c v = writes-nothing c.args.self.now.opened
