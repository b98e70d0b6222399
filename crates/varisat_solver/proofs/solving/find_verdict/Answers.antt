use Rattle.std.proofs.Common.{◌≡◌, ◌-◌, ◌∙◌, length, ⊎_elim, inl, inr, ap, sym, subst, refl, Bool, true, false, Option, arith}
use Rattle.varisat_steps.proofs.Broken.{passed-on}
use Rattle.varisat_search.specs.StepErrors.{step_faults}
use Rattle.varisat_search.specs.declared.state.SolverState.{SolverState}
use Rattle.varisat_search.specs.declared.state.SatState.TheVariants as verdict
use Rattle.varisat_schedule.specs.CallSteps.{steps_since}
use Rattle.varisat_tracer.specs.inside.Tracing.{tracer_state}
use Rattle.varisat_tracer.proofs.Logging.{proof-breaks-on}
use Rattle.varisat_solver.specs.promises.Budgets.{CountsSteps}
use Rattle.varisat_solver.specs.inside.Searches.{answer_at, Turn, turn_of, ComesOn, FailsStep, MakesSolverStep, FindsVerdict}
use Rattle.varisat_solver.specs.inside.Representations.{undecided_spaces, spaces_with}
use Rattle.varisat_solver.proofs.entries.CheckedHeld.{some-on}
use Rattle.varisat_solver.proofs.steps.FindVerdictSteps.{searching-at, not-less, so-far, Stepping, one-more, stepping-moved, stepping-goes-on, stepping-counts, stepping-since, stepping-shortens, none-made, counts-spent, counts-refused, since-stopped, logged-refused, not-spent, room}
use Rattle.varisat_solver.proofs.steps.SolverSteps.{later, later-turn, comes-nowhere, comes-one-more, comes-undecided, comes-decided, unknown-undecided, some-none, some-through}
use Rattle.varisat_solver.proofs.solving.find_verdict.Given.{Over}
use Rattle.varisat_solver.proofs.solving.find_verdict.Goals.{In_ok-make_step, then-steps-first-via-then-steps-first, then-steps-first-via-else-steps-first+then-steps}
use Rattle.varisat_solver.proofs.solving.find_verdict.Goals as goal

-- the step that was made
made : (g : Over) (c : In_ok-make_step g) → MakesSolverStep (tracer_state c.steps.tracer) (tracer_state c.make_step.new.tracer) c.steps.ctx c.make_step.new.ctx
made g c = (c.in_ok-make_step.ensures {u = tt}).made

stepping : (g : Over) (c : In_ok-make_step g) → Stepping c.args.ctx.now c.steps.ctx c.make_step.new.ctx c.args.max_steps
stepping g c =
    let r = c.steps.invariant in
    record {
      searching = searching-at c.args.ctx.now c.steps.ctx c.args.max_steps c.prove_in_range.ensures.luby_restart_interval_scale
          c.requires.valid.ready c.requires.unknown r.count r.config r.made;
      left = not-spent c.args.ctx.now.schedule c.steps.ctx.schedule c.args.max_steps c.steps-first.result c.steps-steps.result
          c.steps-first.ensures.steps c.steps-steps.ensures.steps c.if-steps-first.false;
      next = (made g c).schedule;
      same_count = (made g c).count;
    }

-- what the steps come to with it
stepped : (g : Over) (c : In_ok-make_step g) → ComesOn (turn_of c.args.ctx.now) (steps_since c.args.ctx.now.schedule c.make_step.new.ctx.schedule)
    (undecided_spaces c.args.tracer.now.tables c.args.tracer.now.proof.checker c.args.ctx.now)
    (spaces_with c.make_step.new.tracer.tables c.make_step.new.tracer.proof.checker c.make_step.new.ctx) c.args.tracer.now.proof
    c.make_step.new.tracer.proof
stepped g c =
    let p = c.args.tracer.now in
    let q = c.steps.tracer in
    let r = c.make_step.new.tracer in
    let x = c.args.ctx.now in
    let y = c.steps.ctx in
    let z = c.make_step.new.ctx in
    let n = steps_since x.schedule y.schedule in
    let before = undecided_spaces q.tables q.proof.checker y in
    let after = spaces_with r.tables r.proof.checker z in
    let same : turn_of y ≡ later n (turn_of x) = later-turn x y n c.steps.invariant.config (so-far (stepping g c).searching) in
    comes-one-more (turn_of x) n (steps_since x.schedule z.schedule) p.proof q.proof r.proof
    (undecided_spaces p.tables p.proof.checker x) before after
    (one-more (stepping g c)) (unknown-undecided q.tables q.proof.checker y) c.steps.invariant.represents
    (subst (λ (at : Turn). ComesOn at 1 before after q.proof r.proof) same (made g c).represents)

-- the solver's state but for the verdict
same-state : (g : Over) (c : In_ok-make_step g) → c.make_step.new.ctx.solver_state ≡ record c.args.ctx.now.solver_state
    { sat_state = c.make_step.new.ctx.solver_state.sat_state }
same-state g c = (made g c).state ∙ ap (λ (s : SolverState). record s { sat_state = c.make_step.new.ctx.solver_state.sat_state }) c.steps.invariant.state

-- a verdict that it comes to
found : (g : Over) (c : In_ok-make_step g) (answer : Option Bool) → answer ≡ answer_at c.make_step.new.ctx.solver_state.sat_state →
    FindsVerdict (tracer_state c.args.tracer.now) (tracer_state c.make_step.new.tracer) c.args.ctx.now c.make_step.new.ctx answer
found g c answer e = record {
  kept = (made g c).kept;
  logs = (made g c).logs;
  state = same-state g c;
  answer = e;
  logged = some-through c.args.tracer.now.proof c.steps.tracer.proof c.make_step.new.tracer.proof c.steps.invariant.logged (made g c).logged;
  leaves = λ h n. (made g c).leaves (c.steps.invariant.leaves h) n;
  represents = stepped g c;
  still = λ s. absurd (stepping-moved (stepping g c) s);
}

pub make_step-requires-clause-can : goal.make_step-requires-clause-can
make_step-requires-clause-can g c =
    let i = c.steps.invariant in
    record {
      valid = i.kept;
      logs = i.logs;
      represents = some-on _ _ _ _ c.args.tracer.now.proof c.steps.tracer.proof i.represents c.requires.represents;
      unknown = ap (λ (s : SolverState). s.sat_state) i.state ∙ c.requires.unknown;
    }

pub make_step-requires-clause-counted : goal.make_step-requires-clause-counted
make_step-requires-clause-counted g c = room c.steps.ctx.schedule c.steps-steps.result c.steps-steps.ensures.steps c.steps-steps.type_inv c.if-steps.false

pub steps-init : goal.steps-init
steps-init g c =
    let x = c.args.ctx.now in
    let p = c.args.tracer.now in
    record {
      kept = c.requires.valid;
      logs = c.requires.logs;
      logged = some-none p.proof;
      count = refl;
      state = refl;
      config = refl;
      made = none-made x c.args.max_steps c.steps-first.ensures.plan;
      leaves = λ h. h;
      represents = λ s fit. comes-nowhere (turn_of x) (steps_since x.schedule x.schedule) s p.proof (undecided_spaces p.tables p.proof.checker x) (omega arith)
          (unknown-undecided p.tables p.proof.checker x s fit) fit;
      still = λ e. (refl, refl);
    }

pub overflow_sub-steps : goal.overflow_sub-steps
overflow_sub-steps g c =
    let r = c.steps.invariant in
    let k = not-less (searching-at c.args.ctx.now c.steps.ctx c.args.max_steps c.prove_in_range.ensures.luby_restart_interval_scale
    c.requires.valid.ready c.requires.unknown r.count r.config r.made) in
    let a = c.steps-first.ensures.steps in
    let b = c.steps-steps.ensures.steps in
    omega (arith, k, a, b)

pub steps-smaller : goal.steps-smaller
steps-smaller g c = stepping-shortens (stepping g (goal.at.steps-smaller g c).In_ok-make_step)

pub steps-preserved : goal.steps-preserved
steps-preserved g c =
    let p = c.args.tracer.now in
    let r = c.make_step.new.tracer in
    let z = c.make_step.new.ctx in
    let h = (goal.at.steps-preserved g c).In_ok-make_step in
    let m = made g h in
    let d = stepping g h in
    let i = c.steps.invariant in
    record {
      kept = m.kept;
      logs = m.logs;
      logged = some-through p.proof c.steps.tracer.proof r.proof i.logged m.logged;
      count = m.count ∙ i.count;
      state = same-state g h ∙ ap (λ v. record c.args.ctx.now.solver_state { sat_state = v }) (c.in-Unknown.is ∙ sym c.requires.unknown);
      config = c.make_step.ensures.config ∙ i.config;
      made = stepping-goes-on d (m.since c.in-Unknown.is);
      leaves = λ h. m.leaves (i.leaves h) (λ e. let z : verdict.Unknown ≡ verdict.Unsat = sym c.in-Unknown.is ∙ e in cc);
      represents = comes-undecided _ _ (undecided_spaces p.tables p.proof.checker c.args.ctx.now) r.tables z p.proof r.proof c.in-Unknown.is (stepped g h);
      still = λ e. absurd (stepping-moved d e);
    }

pub returns-then-steps-first-clause-found : goal.returns-then-steps-first-clause-found
returns-then-steps-first-clause-found g c =
    let i = c.steps.invariant in
    let unknown = ap (λ (s : SolverState). s.sat_state) i.state ∙ c.requires.unknown in
    record {
      kept = i.kept;
      logs = i.logs;
      state = ap (λ (s : SolverState). record s { sat_state = c.steps.ctx.solver_state.sat_state }) i.state;
      answer = sym (ap answer_at unknown);
      logged = i.logged;
      leaves = λ h n. i.leaves h;
      represents = comes-decided _ _ (undecided_spaces c.args.tracer.now.tables c.args.tracer.now.proof.checker c.args.ctx.now)
          c.steps.tracer.tables c.steps.ctx c.args.tracer.now.proof c.steps.tracer.proof unknown i.represents;
      still = i.still;
    }

pub returns-then-steps-first-clause-counted : goal.returns-then-steps-first-clause-counted
returns-then-steps-first-clause-counted g c n changed_at h k =
    let x = c.args.ctx.now in
    let y = c.steps.ctx in
    let r = c.steps.invariant in
    counts-spent (searching-at x y c.args.max_steps c.prove_in_range.ensures.luby_restart_interval_scale c.requires.valid.ready c.requires.unknown
    r.count r.config r.made) changed_at k
    (elim c.then-steps-first.branch [
      | then-steps-first-via-then-steps-first w ↦ inl
          (let a = c.steps-first.ensures.steps in let b = c.steps-steps.ensures.steps in let d = w.if-steps-first.true in omega (arith, a, b, d))
      | then-steps-first-via-else-steps-first+then-steps w ↦ inr (sym c.steps-steps.ensures.steps ∙ w.if-steps.true)
    ])
    n h

pub returns-then-steps-first-clause-since : goal.returns-then-steps-first-clause-since
returns-then-steps-first-clause-since g c changed_at k =
    let r = c.steps.invariant in
    since-stopped (searching-at c.args.ctx.now c.steps.ctx c.args.max_steps c.prove_in_range.ensures.luby_restart_interval_scale
    c.requires.valid.ready c.requires.unknown r.count r.config r.made) changed_at k

pub returns-in-Sat-clause-found : goal.returns-in-Sat-clause-found
returns-in-Sat-clause-found g c = found g (goal.at.returns-in-Sat-clause-found g c).In_ok-make_step _ (sym (ap answer_at c.in-Sat.is))

pub returns-in-Sat-clause-counted : goal.returns-in-Sat-clause-counted
returns-in-Sat-clause-counted g c n changed_at h k = stepping-counts
    (stepping g (goal.at.returns-in-Sat-clause-counted g c).In_ok-make_step) true n changed_at h k

pub returns-in-Sat-clause-since : goal.returns-in-Sat-clause-since
returns-in-Sat-clause-since g c changed_at k = stepping-since (stepping g (goal.at.returns-in-Sat-clause-since g c).In_ok-make_step)
    (λ u. let z : verdict.Sat ≡ verdict.Unknown = sym c.in-Sat.is ∙ u in cc) changed_at k

pub returns-in-Unsat-clause-found : goal.returns-in-Unsat-clause-found
returns-in-Unsat-clause-found g c = found g (goal.at.returns-in-Unsat-clause-found g c).In_ok-make_step _
    (⊎_elim (λ q. sym (ap answer_at q)) (λ q. sym (ap answer_at q)) c.in-Unsat.is)

pub returns-in-Unsat-clause-counted : goal.returns-in-Unsat-clause-counted
returns-in-Unsat-clause-counted g c n changed_at h k = stepping-counts
    (stepping g (goal.at.returns-in-Unsat-clause-counted g c).In_ok-make_step) false n changed_at h k

pub returns-in-Unsat-clause-since : goal.returns-in-Unsat-clause-since
returns-in-Unsat-clause-since g c changed_at k =
    stepping-since (stepping g (goal.at.returns-in-Unsat-clause-since g c).In_ok-make_step)
    (λ u. ⊎_elim (λ e. let z : verdict.Unsat ≡ verdict.Unknown = sym e ∙ u in absurd cc)
    (λ e. let z : verdict.UnsatUnderAssumptions ≡ verdict.Unknown = sym e ∙ u in absurd cc) c.in-Unsat.is)
    changed_at k

pub returns-in_err-make_step-clause-counted : goal.returns-in_err-make_step-clause-counted
returns-in_err-make_step-clause-counted g c n changed_at h k =
    let x = c.args.ctx.now in
    let y = c.steps.ctx in
    let r = c.steps.invariant in
    let (e, logged) = logged-refused c.from_residual.result c.from_residual.ensures.0 in
    subst (λ a. CountsSteps n c.args.max_steps (x.schedule.steps - changed_at) x.schedule.steps c.make_step.new.ctx.schedule.steps a) (sym logged)
    (counts-refused (searching-at x y c.args.max_steps c.prove_in_range.ensures.luby_restart_interval_scale c.requires.valid.ready c.requires.unknown
    r.count r.config r.made) changed_at k e c.make_step.new.ctx.schedule.steps (c.in_err-make_step.ensures {u = tt}).uncounted n h)

pub returns-in_err-make_step-clause-fails : goal.returns-in_err-make_step-clause-fails
returns-in_err-make_step-clause-fails g c =
    let e = c.in_err-make_step.field-0.0 in
    let p = c.args.tracer.now.proof in
    let r = c.make_step.new.tracer.proof in
    let x = c.args.ctx.now in
    let z = c.make_step.new.ctx in
    let (given, logged) = c.steps.invariant.logged in
    let failed = (c.in_err-make_step.ensures {u = tt}).fails in
    let fails : FailsStep p r x z e = record {
      broken = proof-breaks-on p c.steps.tracer.proof r given (step_faults e) logged failed.broken;
      full = λ f. let (room, same) = failed.full f in (room, same ∙ c.steps.invariant.count);
    } in
    passed-on c.from_residual.result e (λ w. FailsStep p r x z w) c.from_residual.ensures fails
