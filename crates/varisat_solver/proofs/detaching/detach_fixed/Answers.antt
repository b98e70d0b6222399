use Rattle.varisat_search.specs.declared.error.StepError.TheVariants as step
use Rattle.varisat_search.proofs.stepping.StepErrors.{trace-faults, trace-unfilled}
use Rattle.varisat_search.specs.StepErrors.{step_faults}
use Rattle.varisat_steps.proofs.Broken.{passed-on}
use Rattle.varisat_steps.specs.Traces.{faults_of}
use Rattle.std.proofs.Common.{◌≡◌, ◌≢◌, ◌<◌, inl, inr, ⊎_elim, length, ap, ◌∙◌, sym, subst, refl, arith}
use Rattle.std.proofs.Math.Arith.{lt_of_le-ne}
use Rattle.varisat_prop.specs.Changes.{IsConflicting}
use Rattle.varisat_search.specs.RootSimplified.{IsRootUnpropagated}
use Rattle.varisat_search.proofs.stepping.FixedLiterals.{fixed-undecided}
use Rattle.varisat_solver.specs.promises.Detaching.{AreOverAssumed}
use Rattle.varisat_solver.proofs.steps.SinceSteps.{failed-there, come-settled}
use Rattle.varisat_names.specs.promises.Variables.{Tables}
use Rattle.varisat_tracer.specs.inside.Tracing.{tracer_state, open_parts, BreaksProof}
use Rattle.varisat_proof.specs.promises.Proving.{ProofParts}
use Rattle.varisat_tracer.proofs.Logging.{logs-logged, breaks-proof, open-unbroken, proof-breaks-on}
use Rattle.varisat_solver.specs.inside.Searches.{LogsSome, Turn, ComesOn}
use Rattle.varisat_solver.specs.inside.SinceChange.{GoesOnWithin}
use Rattle.varisat_solver.proofs.steps.RootSimplifiedParts.{settled-parts}
use Rattle.varisat_solver.specs.inside.Representations.{undecided_spaces, IsValidSolver}
use Rattle.varisat_solver.proofs.steps.SearchVerdicts.{kept-on}
use Rattle.varisat_solver.proofs.detaching.detach_fixed.Given.{Over}
use Rattle.varisat_solver.proofs.detaching.detach_fixed.Goals.{In-Ok, In_ok-detach_unneeded}
use Rattle.varisat_search.specs.declared.context.Context.{Context}
use Rattle.varisat_search.specs.Contexts.{view}
use Rattle.varisat_solver.proofs.entries.CheckedHeld.{relied}
use Rattle.varisat_solver.proofs.steps.SolverSteps.{some-through, comes-nowhere, comes-through, leaving-comes, unknown-undecided, part-comes, some-none}
use Rattle.varisat_solver.proofs.detaching.detach_fixed.Goals as goal

pub simplify_root-requires-clause-holds : goal.simplify_root-requires-clause-holds
simplify_root-requires-clause-holds g c = relied c.args.tracer.now.tables c.args.tracer.now.proof
    (view c.args.ctx.now) c.args.ctx.now.assumptions c.requires.logs c.requires.represents

-- what simplifying comes to
begun : (g : Over) (c : In-Ok g) (at : Turn) → ComesOn at 0 (undecided_spaces c.args.tracer.now.tables c.args.tracer.now.proof.checker c.args.ctx.now)
    (undecided_spaces c.simplify_root.new.proof.tables c.simplify_root.new.proof.proof.checker c.simplify_root.new.ctx) c.args.tracer.now.proof c.simplify_root.new.proof.proof
begun g c at =
    let e = c.in-Ok.ensures {u = tt} in
    let goes = e.goes_on in
    let (lines, proves, (simplifies_root, takes)) = goes.proves in
    part-comes at (tracer_state c.args.tracer.now) (tracer_state c.simplify_root.new.proof) c.args.ctx.now c.simplify_root.new.ctx lines c.requires.valid
    (λ due held after d f. settled-parts lines (view c.args.ctx.now) (view c.simplify_root.new.ctx) c.in-Ok.settled simplifies_root goes.ready.well e.settled held after d f)
    proves takes
    goes.ready goes.extends.count goes.decidable
    (ap (λ (z : Context g.row.A.Denot). z.assumptions) c.simplify_root.ensures.frame)

-- and what the proof logged
settled-logged : (g : Over) (c : In-Ok g) → LogsSome c.args.tracer.now.proof c.simplify_root.new.proof.proof
settled-logged g c = (_, (c.in-Ok.ensures {u = tt}).goes_on.proves.2.1.logged)

-- and of variables that left
left-logged : (g : Over) (c : In_ok-detach_unneeded g) → LogsSome c.simplify_root.new.proof.proof c.detach_unneeded.new.tracer.proof
left-logged g c = some-through c.simplify_root.new.proof.proof c.detach_listed.new.tracer.proof c.detach_unneeded.new.tracer.proof
    (c.in_ok-detach_listed.ensures {u = tt}).leave.given (c.in_ok-detach_unneeded.ensures {u = tt}).leave.given

-- the solver keeps what it did
kept : (g : Over) (c : In-Ok g) → IsValidSolver c.simplify_root.new.proof.tables c.simplify_root.new.ctx
kept g c =
    let x = c.args.ctx.now in
    let goes = (c.in-Ok.ensures {u = tt}).goes_on in
    let same = ap (λ (z : Context g.row.A.Denot). z.assumptions) c.simplify_root.ensures.frame in
    subst (λ (t : Tables). IsValidSolver t c.simplify_root.new.ctx) (sym goes.proves.2.1.tables)
    (kept-on c.args.tracer.now.tables x c.simplify_root.new.ctx c.requires.valid goes.ready goes.extends.count goes.decidable same)

pub detach_listed-requires-clause-valid : goal.detach_listed-requires-clause-valid
detach_listed-requires-clause-valid g c = kept g (goal.at.detach_listed-requires-clause-valid g c).In-Ok

pub detach_unneeded-requires-clause-valid : goal.detach_unneeded-requires-clause-valid
detach_unneeded-requires-clause-valid g c = (c.in_ok-detach_listed.ensures {u = tt}).leave.kept

-- and the steps of a call go on in it
within : (g : Over) (c : In-Ok g) → GoesOnWithin c.args.ctx.now c.simplify_root.new.ctx
within g c =
    come-settled _ c.args.ctx.now c.simplify_root.new.ctx (c.in-Ok.ensures {u = tt}).goes_on
    (ap (λ (z : Context g.row.A.Denot). z.solver_config) c.simplify_root.ensures.frame)

-- nothing was to be done
pub returns-then-not-is_root_unpropagated-clause-detached : goal.returns-then-not-is_root_unpropagated-clause-detached
returns-then-not-is_root_unpropagated-clause-detached g c =
    let p = c.args.tracer.now in
    let x = c.args.ctx.now in
    let quiet : IsRootUnpropagated (view x) → ⊥ = λ u. let b = c.is_root_unpropagated.ensures.1 u in let n = c.if-not-is_root_unpropagated.true in absurd cc in
    record {
      kept = c.requires.valid;
      logs = c.requires.logs;
      logged = some-none p.proof;
      within = λ i q k. k;
      count = refl;
      left = λ d n. absurd (quiet (d, lt_of_le-ne c.requires.valid.ready.well.head n));
      calm = inl quiet;
      leaves = λ h. ⊎_elim (λ n. inl (n, quiet)) (λ u. absurd (quiet u)) h;
      represents = λ at s fit. comes-nowhere at 0 s p.proof _ refl (unknown-undecided p.tables p.proof.checker x s fit) fit;
    }

-- a clause is false
pub returns-then-is_err-clause-detached : goal.returns-then-is_err-clause-detached
returns-then-is_err-clause-detached g c =
    let here = (goal.at.returns-then-is_err-clause-detached g c).In-Ok in
    let p = c.args.tracer.now in
    let q = c.simplify_root.new.proof in
    let y = c.simplify_root.new.ctx in
    let e = c.in-Ok.ensures {u = tt} in
    let (given, logged) = settled-logged g here in
    let found = failed-there c.in-Ok.settled (λ _. Unit {0}) (IsConflicting (view y)) (sym c.is_err.ensures.value ∙ c.if-is_err.true) e.conflict in
    record {
      kept = kept g here;
      logs = logs-logged p.proof q.proof given logged c.requires.logs;
      logged = (given, logged);
      within = within g here;
      count = e.goes_on.extends.count;
      left = λ d n. inl found;
      calm = inr (e.at_zero, found);
      leaves = λ h. inr (e.at_zero, found);
      represents = begun g here;
    }

-- variables left
pub returns-clause-detached : goal.returns-clause-detached
returns-clause-detached g c =
    let here = (goal.at.returns-clause-detached g c).In-Ok in
    let p = c.args.tracer.now in
    let q = c.simplify_root.new.proof in
    let r = c.detach_listed.new.tracer in
    let last = c.detach_unneeded.new.tracer in
    let x = c.args.ctx.now in
    let y = c.simplify_root.new.ctx in
    let u = c.detach_listed.new.ctx in
    let z = c.detach_unneeded.new.ctx in
    let first = (c.in_ok-detach_listed.ensures {u = tt}).leave in
    let e = c.in_ok-detach_unneeded.ensures {u = tt} in
    let d = e.settled in
    let quiet : IsRootUnpropagated (view z) → ⊥ = λ n. let head = d.propagated in let low = n.1 in omega (arith, head, low) in
    let (given, logged) = some-through p.proof q.proof last.proof (settled-logged g here)
    (left-logged g (goal.at.returns-clause-detached g c).In_ok-detach_unneeded) in
    record {
      kept = e.leave.kept;
      logs = logs-logged p.proof last.proof given logged c.requires.logs;
      logged = (given, logged);
      within = λ i q k. e.leave.within i q (first.within i q (within g here i q k));
      count = e.leave.count ∙ first.count ∙ (c.in-Ok.ensures {u = tt}).goes_on.extends.count;
      left = λ a n. inr e.left;
      calm = inl quiet;
      leaves = λ h. inl (subst (AreOverAssumed last.tables) (sym (fixed-undecided (view z) d.undecided)) e.left.assumed, quiet);
      represents = λ at.
          comes-through at p.proof q.proof last.proof (undecided_spaces p.tables p.proof.checker x) (undecided_spaces q.tables q.proof.checker y)
          (undecided_spaces last.tables last.proof.checker z) (unknown-undecided q.tables q.proof.checker y) (begun g here at)
          (comes-through at q.proof r.proof last.proof (undecided_spaces q.tables q.proof.checker y) (undecided_spaces r.tables r.proof.checker u)
          (undecided_spaces last.tables last.proof.checker z) (unknown-undecided r.tables r.proof.checker u)
          (leaving-comes at q.proof r.proof (undecided_spaces q.tables q.proof.checker y) (undecided_spaces r.tables r.proof.checker u)
          (unknown-undecided q.tables q.proof.checker y) first.represents)
          (leaving-comes at r.proof last.proof (undecided_spaces r.tables r.proof.checker u) (undecided_spaces last.tables last.proof.checker z)
          (unknown-undecided r.tables r.proof.checker u) e.leave.represents));
    }

pub returns-in-Err-clause-broken : goal.returns-in-Err-clause-broken
returns-in-Err-clause-broken g c =
    let e = c.in-Err.error in
    let p = c.args.tracer.now in
    let q = c.simplify_root.new.proof in
    subst (λ z. BreaksProof p.proof (step_faults z) q.proof) (sym c.from.ensures)
    (subst (λ n. BreaksProof p.proof n q.proof) (trace-faults e)
    (breaks-proof (tracer_state p) (tracer_state q) (faults_of e) (c.in-Err.ensures {u = tt}).broken))

pub returns-in-Err-clause-full : goal.returns-in-Err-clause-full
returns-in-Err-clause-full g c = subst (λ z. z ≢ step.Full) (sym c.from.ensures) (trace-unfilled c.in-Err.error)

-- as variables leave, nothing more is written
unwritten : (p q r : ProofParts) → LogsSome p q → open_parts r ≡ open_parts q → BreaksProof p 0 r
unwritten p q r (given, logged) same = proof-breaks-on p q r given 0 logged (open-unbroken q r same)

pub returns-in_err-detach_listed-clause-broken : goal.returns-in_err-detach_listed-clause-broken
returns-in_err-detach_listed-clause-broken g c =
    let p = c.args.tracer.now.proof in
    let q = c.simplify_root.new.proof.proof in
    let r = c.detach_listed.new.tracer.proof in
    passed-on c.from_residual.result step.Memory (λ z. BreaksProof p (step_faults z) r) c.from_residual.ensures
    (unwritten p q r (settled-logged g (goal.at.returns-in_err-detach_listed-clause-broken g c).In-Ok) c.detach_listed.ensures.opened)

pub returns-in_err-detach_unneeded-clause-broken : goal.returns-in_err-detach_unneeded-clause-broken
returns-in_err-detach_unneeded-clause-broken g c =
    let p = c.args.tracer.now.proof in
    let q = c.simplify_root.new.proof.proof in
    let r = c.detach_unneeded.new.tracer.proof in
    passed-on c.from_residual-in_err-detach_unneeded.result step.Memory (λ z. BreaksProof p (step_faults z) r) c.from_residual-in_err-detach_unneeded.ensures
    (unwritten p q r (settled-logged g (goal.at.returns-in_err-detach_unneeded-clause-broken g c).In-Ok)
    (c.detach_unneeded.ensures.opened ∙ c.detach_listed.ensures.opened))

pub returns-in_err-detach_listed-clause-full : goal.returns-in_err-detach_listed-clause-full
returns-in_err-detach_listed-clause-full g c = passed-on c.from_residual.result step.Memory (λ z. z ≢ step.Full) c.from_residual.ensures (λ e. cc)

pub returns-in_err-detach_unneeded-clause-full : goal.returns-in_err-detach_unneeded-clause-full
returns-in_err-detach_unneeded-clause-full g c = passed-on c.from_residual-in_err-detach_unneeded.result step.Memory
    (λ z. z ≢ step.Full) c.from_residual-in_err-detach_unneeded.ensures (λ e. cc)
