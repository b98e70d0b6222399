use Rattle.varisat_proof.specs.promises.Proving.{is_logging}
use Rattle.varisat_steps.specs.declared.tracer.TraceError.TheVariants.{Memory}
use Rattle.varisat_steps.proofs.Broken.{step-broken}
use Rattle.std.proofs.Common.{List, [], ◌∷◌, refl, sym, ap, ◌∙◌, subst}
use Rattle.varisat_theory.specs.promises.Literals.{Literal}
use Rattle.varisat_theory.specs.promises.Derivations.{Add, Delete}
use Rattle.varisat_theory.specs.inside.StepLaws.{unit_lines}
use Rattle.varisat_theory.specs.promises.Journals.{Writes, Fails, written}
use Rattle.varisat_steps.specs.Traces.{CanTakeStep, entries_of}
use Rattle.varisat_steps.specs.declared.step.ProofStep.{ProofStep}
use Rattle.varisat_tracer.specs.promises.Carried.{logged_as}
use Rattle.varisat_tracer.specs.inside.Tracing.{TracerState, tracer_state, global_literal, Relies, TakesGlobally, BreaksGlobally}
use Rattle.varisat_tracer.proofs.GlobalSteps.{added-parts, units-parts, deleted-parts, fails-parts, takes-parts, logged-units, breaks-logged, breaks-before}
use Rattle.varisat_tracer.proofs.tracer.SolverTracerProofTracer.add_step.Goals as goal

pub add_step-requires-clause-right : goal.add_step-requires-clause-right
add_step-requires-clause-right g c =
    let y : TracerState = record { tables = c.args.self.now.tables; proof = c.args.self.now.proof } in
    added-parts y y c.in-AtClause.clause.now c.as_slice-clause.result.now refl (c.as_slice-clause.ensures.value ∙ c.in_ok-map_lits-in-AtClause.ensures)
    (subst (λ (s : ProofStep). CanTakeStep (Relies y) s) c.in-AtClause.is c.requires)

pub add_step-requires-in-UnitClauses-clause-right :
    goal.add_step-requires-in-UnitClauses-clause-right
add_step-requires-in-UnitClauses-clause-right g c =
    let y : TracerState = record { tables = c.args.self.now.tables; proof = c.args.self.now.proof } in
    units-parts y y c.in-UnitClauses.units.now c.as_slice-units.result.now refl (c.as_slice-units.ensures.value ∙ c.in_ok-map_lits-in-UnitClauses.ensures)
    (subst (λ (s : ProofStep). CanTakeStep (Relies y) s) c.in-UnitClauses.is c.requires)

pub add_step-requires-in-DeleteClause-clause-right :
    goal.add_step-requires-in-DeleteClause-clause-right
add_step-requires-in-DeleteClause-clause-right g c =
    let y : TracerState = record { tables = c.args.self.now.tables; proof = c.args.self.now.proof } in
    deleted-parts y y c.in-DeleteClause.clause.now c.as_slice-clause-in-DeleteClause.result.now refl
    (c.as_slice-clause-in-DeleteClause.ensures.value ∙ c.in_ok-map_lits-in-DeleteClause.ensures)
    (subst (λ (s : ProofStep). CanTakeStep (Relies y) s) c.in-DeleteClause.is c.requires)

pub add_step-requires-in-FailedAssumptions-clause-right :
    goal.add_step-requires-in-FailedAssumptions-clause-right
add_step-requires-in-FailedAssumptions-clause-right g c =
    let y : TracerState = record { tables = c.args.self.now.tables; proof = c.args.self.now.proof } in
    fails-parts y y c.in-FailedAssumptions.failed_core.now c.as_slice-failed_core.result.now refl
    (c.as_slice-failed_core.ensures.value ∙ c.in_ok-map_lits-in-FailedAssumptions.ensures)
    (subst (λ (s : ProofStep). CanTakeStep (Relies y) s) c.in-FailedAssumptions.is c.requires)

pub returns-in_ok-add_step-in-AtClause : goal.returns-in_ok-add_step-in-AtClause
returns-in_ok-add_step-in-AtClause g c =
    let y : TracerState = record { tables = c.args.self.now.tables; proof = c.args.self.now.proof } in
    let z : TracerState = record { tables = c.args.self.now.tables; proof = c.add_step.new.proof } in
    let f = global_literal c.args.self.now.tables in
    takes-parts y y z (entries_of c.args.step.now) (Writes (Add c.as_slice-clause.result.now) ∷ []) refl refl
    (ap (λ (ls : List Literal). Writes (Add ls) ∷ []) (c.as_slice-clause.ensures.value ∙ c.in_ok-map_lits-in-AtClause.ensures) ∙
    ap (λ (s : ProofStep). logged_as f (entries_of s)) (sym c.in-AtClause.is)) c.in_ok-add_step-in-AtClause.ensures

pub returns-in_ok-add_step-in-UnitClauses : goal.returns-in_ok-add_step-in-UnitClauses
returns-in_ok-add_step-in-UnitClauses g c =
    let y : TracerState = record { tables = c.args.self.now.tables; proof = c.args.self.now.proof } in
    let z : TracerState = record { tables = c.args.self.now.tables; proof = c.add_step-in-UnitClauses.new.proof } in
    let f = global_literal c.args.self.now.tables in
    takes-parts y y z (entries_of c.args.step.now) (written (unit_lines c.as_slice-units.result.now)) refl refl
    (ap (λ (ls : List Literal). written (unit_lines ls)) (c.as_slice-units.ensures.value ∙ c.in_ok-map_lits-in-UnitClauses.ensures) ∙
    sym (logged-units f c.in-UnitClauses.units.now) ∙ ap (λ (s : ProofStep). logged_as f (entries_of s)) (sym c.in-UnitClauses.is))
    c.in_ok-add_step-in-UnitClauses.ensures

pub returns-in_ok-add_step-in-DeleteClause : goal.returns-in_ok-add_step-in-DeleteClause
returns-in_ok-add_step-in-DeleteClause g c =
    let y : TracerState = record { tables = c.args.self.now.tables; proof = c.args.self.now.proof } in
    let z : TracerState = record { tables = c.args.self.now.tables; proof = c.add_step-in-DeleteClause.new.proof } in
    let f = global_literal c.args.self.now.tables in
    takes-parts y y z (entries_of c.args.step.now) (Writes (Delete c.as_slice-clause-in-DeleteClause.result.now) ∷ []) refl refl
    (ap (λ (ls : List Literal). Writes (Delete ls) ∷ []) (c.as_slice-clause-in-DeleteClause.ensures.value ∙ c.in_ok-map_lits-in-DeleteClause.ensures) ∙
    ap (λ (s : ProofStep). logged_as f (entries_of s)) (sym c.in-DeleteClause.is)) c.in_ok-add_step-in-DeleteClause.ensures

pub returns-in_err-map_lits-in-AtClause : goal.returns-in_err-map_lits-in-AtClause
returns-in_err-map_lits-in-AtClause g c =
    let y : TracerState = record { tables = c.args.self.now.tables; proof = c.args.self.now.proof } in
    step-broken (λ a es b. TakesGlobally (tracer_state a) es (tracer_state b)) (λ a es n b. BreaksGlobally (tracer_state a) es n (tracer_state b))
    (is_logging c.args.self.now.proof) c.args.self.now _ (entries_of c.args.step.now) c.from_residual.result Memory c.from_residual.ensures
    (sym c.is_active.ensures ∙ c.if-not-is_active.false) (breaks-before y (entries_of c.args.step.now))

pub returns-in_err-add_step-in-AtClause : goal.returns-in_err-add_step-in-AtClause
returns-in_err-add_step-in-AtClause g c =
    let y : TracerState = record { tables = c.args.self.now.tables; proof = c.args.self.now.proof } in
    let z : TracerState = record { tables = c.args.self.now.tables; proof = c.add_step.new.proof } in
    let f = global_literal c.args.self.now.tables in
    let e = c.in_err-add_step-in-AtClause.field-0.0 in
    step-broken (λ a es b. TakesGlobally (tracer_state a) es (tracer_state b)) (λ a es n b. BreaksGlobally (tracer_state a) es n (tracer_state b))
    (is_logging c.args.self.now.proof) c.args.self.now _ (entries_of c.args.step.now) c.from_residual-in_err-add_step-in-AtClause.result e
    c.from_residual-in_err-add_step-in-AtClause.ensures
    (sym c.is_active.ensures ∙ c.if-not-is_active.false)
    (breaks-logged y z (entries_of c.args.step.now) (Writes (Add c.as_slice-clause.result.now) ∷ []) e refl
    (ap (λ (ls : List Literal). Writes (Add ls) ∷ []) (c.as_slice-clause.ensures.value ∙ c.in_ok-map_lits-in-AtClause.ensures) ∙
    ap (λ (s : ProofStep). logged_as f (entries_of s)) (sym c.in-AtClause.is)) (c.in_err-add_step-in-AtClause.ensures {u = tt}))

pub returns-in_err-map_lits-in-UnitClauses : goal.returns-in_err-map_lits-in-UnitClauses
returns-in_err-map_lits-in-UnitClauses g c =
    let y : TracerState = record { tables = c.args.self.now.tables; proof = c.args.self.now.proof } in
    step-broken (λ a es b. TakesGlobally (tracer_state a) es (tracer_state b)) (λ a es n b. BreaksGlobally (tracer_state a) es n (tracer_state b))
    (is_logging c.args.self.now.proof) c.args.self.now _ (entries_of c.args.step.now) c.from_residual-in_err-map_lits-in-UnitClauses.result
    Memory c.from_residual-in_err-map_lits-in-UnitClauses.ensures
    (sym c.is_active.ensures ∙ c.if-not-is_active.false) (breaks-before y (entries_of c.args.step.now))

pub returns-in_err-add_step-in-UnitClauses : goal.returns-in_err-add_step-in-UnitClauses
returns-in_err-add_step-in-UnitClauses g c =
    let y : TracerState = record { tables = c.args.self.now.tables; proof = c.args.self.now.proof } in
    let z : TracerState = record { tables = c.args.self.now.tables; proof = c.add_step-in-UnitClauses.new.proof } in
    let f = global_literal c.args.self.now.tables in
    let e = c.in_err-add_step-in-UnitClauses.field-0.0 in
    step-broken (λ a es b. TakesGlobally (tracer_state a) es (tracer_state b)) (λ a es n b. BreaksGlobally (tracer_state a) es n (tracer_state b))
    (is_logging c.args.self.now.proof) c.args.self.now _ (entries_of c.args.step.now) c.from_residual-in_err-add_step-in-UnitClauses.result e
    c.from_residual-in_err-add_step-in-UnitClauses.ensures
    (sym c.is_active.ensures ∙ c.if-not-is_active.false)
    (breaks-logged y z (entries_of c.args.step.now) (written (unit_lines c.as_slice-units.result.now)) e refl
    (ap (λ (ls : List Literal). written (unit_lines ls)) (c.as_slice-units.ensures.value ∙ c.in_ok-map_lits-in-UnitClauses.ensures) ∙
    sym (logged-units f c.in-UnitClauses.units.now) ∙ ap (λ (s : ProofStep). logged_as f (entries_of s)) (sym c.in-UnitClauses.is))
    (c.in_err-add_step-in-UnitClauses.ensures {u = tt}))

pub returns-in_err-map_lits-in-DeleteClause : goal.returns-in_err-map_lits-in-DeleteClause
returns-in_err-map_lits-in-DeleteClause g c =
    let y : TracerState = record { tables = c.args.self.now.tables; proof = c.args.self.now.proof } in
    step-broken (λ a es b. TakesGlobally (tracer_state a) es (tracer_state b)) (λ a es n b. BreaksGlobally (tracer_state a) es n (tracer_state b))
    (is_logging c.args.self.now.proof) c.args.self.now _ (entries_of c.args.step.now) c.from_residual-in_err-map_lits-in-DeleteClause.result
    Memory c.from_residual-in_err-map_lits-in-DeleteClause.ensures
    (sym c.is_active.ensures ∙ c.if-not-is_active.false) (breaks-before y (entries_of c.args.step.now))

pub returns-in_err-add_step-in-DeleteClause : goal.returns-in_err-add_step-in-DeleteClause
returns-in_err-add_step-in-DeleteClause g c =
    let y : TracerState = record { tables = c.args.self.now.tables; proof = c.args.self.now.proof } in
    let z : TracerState = record { tables = c.args.self.now.tables; proof = c.add_step-in-DeleteClause.new.proof } in
    let f = global_literal c.args.self.now.tables in
    let e = c.in_err-add_step-in-DeleteClause.field-0.0 in
    step-broken (λ a es b. TakesGlobally (tracer_state a) es (tracer_state b)) (λ a es n b. BreaksGlobally (tracer_state a) es n (tracer_state b))
    (is_logging c.args.self.now.proof) c.args.self.now _ (entries_of c.args.step.now) c.from_residual-in_err-add_step-in-DeleteClause.result e
    c.from_residual-in_err-add_step-in-DeleteClause.ensures
    (sym c.is_active.ensures ∙ c.if-not-is_active.false)
    (breaks-logged y z (entries_of c.args.step.now) (Writes (Delete c.as_slice-clause-in-DeleteClause.result.now) ∷ []) e refl
    (ap (λ (ls : List Literal). Writes (Delete ls) ∷ []) (c.as_slice-clause-in-DeleteClause.ensures.value ∙ c.in_ok-map_lits-in-DeleteClause.ensures) ∙
    ap (λ (s : ProofStep). logged_as f (entries_of s)) (sym c.in-DeleteClause.is)) (c.in_err-add_step-in-DeleteClause.ensures {u = tt}))

pub returns-in_err-map_lits-in-FailedAssumptions : goal.returns-in_err-map_lits-in-FailedAssumptions
returns-in_err-map_lits-in-FailedAssumptions g c =
    let y : TracerState = record { tables = c.args.self.now.tables; proof = c.args.self.now.proof } in
    step-broken (λ a es b. TakesGlobally (tracer_state a) es (tracer_state b)) (λ a es n b. BreaksGlobally (tracer_state a) es n (tracer_state b))
    (is_logging c.args.self.now.proof) c.args.self.now _ (entries_of c.args.step.now)
    c.from_residual-in_err-map_lits-in-FailedAssumptions.result Memory c.from_residual-in_err-map_lits-in-FailedAssumptions.ensures
    (sym c.is_active.ensures ∙ c.if-not-is_active.false) (breaks-before y (entries_of c.args.step.now))

pub returns-in_err-add_step-in-FailedAssumptions : goal.returns-in_err-add_step-in-FailedAssumptions
returns-in_err-add_step-in-FailedAssumptions g c =
    let y : TracerState = record { tables = c.args.self.now.tables; proof = c.args.self.now.proof } in
    let z : TracerState = record { tables = c.args.self.now.tables; proof = c.add_step-in-FailedAssumptions.new.proof } in
    let f = global_literal c.args.self.now.tables in
    let e = c.in_err-add_step-in-FailedAssumptions.field-0.0 in
    step-broken (λ a es b. TakesGlobally (tracer_state a) es (tracer_state b)) (λ a es n b. BreaksGlobally (tracer_state a) es n (tracer_state b))
    (is_logging c.args.self.now.proof) c.args.self.now _ (entries_of c.args.step.now)
    c.from_residual-in_err-add_step-in-FailedAssumptions.result e c.from_residual-in_err-add_step-in-FailedAssumptions.ensures
    (sym c.is_active.ensures ∙ c.if-not-is_active.false)
    (breaks-logged y z (entries_of c.args.step.now) (Fails c.as_slice-failed_core.result.now ∷ []) e refl
    (ap (λ (ls : List Literal). Fails ls ∷ []) (c.as_slice-failed_core.ensures.value ∙ c.in_ok-map_lits-in-FailedAssumptions.ensures) ∙
    ap (λ (s : ProofStep). logged_as f (entries_of s)) (sym c.in-FailedAssumptions.is)) (c.in_err-add_step-in-FailedAssumptions.ensures {u = tt}))
