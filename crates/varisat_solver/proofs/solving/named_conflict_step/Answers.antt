use Rattle.std.proofs.Common.{ap, subst, sym}
use Rattle.varisat_theory.specs.promises.Literals.{variable_of}
use Rattle.varisat_names.specs.promises.Variables.{Tables}
use Rattle.varisat_search.specs.declared.error.StepError.TheVariants as step
use Rattle.varisat_search.specs.Contexts.{view}
use Rattle.varisat_search.specs.Seen.{outcome_of}
use Rattle.varisat_search.specs.StepErrors.{step_faults}
use Rattle.varisat_steps.proofs.Broken.{passed-on}
use Rattle.varisat_tracer.specs.inside.Tracing.{tracer_state}
use Rattle.varisat_tracer.proofs.Logging.{breaks-proof, proof-unbroken, proof-breaks-on}
use Rattle.varisat_solver.specs.inside.Accepting.{HasUser}
use Rattle.varisat_solver.specs.inside.Searches.{FailsStep}
use Rattle.varisat_solver.proofs.entries.CheckedHeld.{relied}
use Rattle.varisat_solver.proofs.modes.TableMarks.{assumed-named}
use Rattle.varisat_solver.proofs.steps.SearchVerdicts.{named-plainly, named-also}
use Rattle.varisat_solver.proofs.solving.named_conflict_step.Goals as goal

pub conflict_step-requires-clause-holds : goal.conflict_step-requires-clause-holds
conflict_step-requires-clause-holds g c = relied c.args.tracer.now.tables c.args.tracer.now.proof
    (view c.args.ctx.now) c.args.ctx.now.assumptions c.requires.logs c.requires.represents

pub name_core-requires : goal.name_core-requires
name_core-requires g c l h =
    let mid = c.conflict_step.new.ctx in
    let m = (c.in_ok-conflict_step.ensures {u = tt}).made in
    let (lines, steps, (simplifies_root, learns, takes)) = m.goes.steps in
    let under = ap (outcome_of (view mid) mid.assumptions.failed_core) c.in-UnsatUnderAssumptions.is in
    subst (λ (t : Tables). HasUser t (variable_of l)) (sym takes.tables)
    (assumed-named c.args.tracer.now.tables (variable_of l) (c.requires.valid.working l ((m.assumes.core mid.assumptions.failed_core under).0 l h)))

pub returns-clause-made : goal.returns-clause-made
returns-clause-made g c =
    named-also (tracer_state c.args.tracer.now) (tracer_state c.conflict_step.new.proof) c.args.ctx.now c.conflict_step.new.ctx
    (c.in_ok-conflict_step.ensures {u = tt}).made (c.in_ok-conflict_step.ensures {u = tt}).fixes c.name_core.new.ctx c.name_core.ensures.frame
    (c.in_ok-name_core.ensures {u = tt}).named

pub returns-in_default-clause-made : goal.returns-in_default-clause-made
returns-in_default-clause-made g c =
    named-plainly (tracer_state c.args.tracer.now) (tracer_state c.conflict_step.new.proof) c.args.ctx.now c.conflict_step.new.ctx
    (c.in_ok-conflict_step.ensures {u = tt}).made (c.in_ok-conflict_step.ensures {u = tt}).fixes c.in_default.not-UnsatUnderAssumptions

pub returns-in_err-conflict_step-clause-fails : goal.returns-in_err-conflict_step-clause-fails
returns-in_err-conflict_step-clause-fails g c =
    let e = c.in_err-conflict_step.field-0.0 in
    let p = c.args.tracer.now in
    let q = c.conflict_step.new.proof in
    let x = c.args.ctx.now in
    let y = c.conflict_step.new.ctx in
    let fails : FailsStep p.proof q.proof x y e = record {
      broken = breaks-proof (tracer_state p) (tracer_state q) (step_faults e) (c.in_err-conflict_step.ensures {u = tt}).broken;
      full = (c.in_err-conflict_step.ensures {u = tt}).ends.full;
    } in
    passed-on c.from_residual.result e (λ z. FailsStep p.proof q.proof x y z) c.from_residual.ensures fails

pub returns-in_err-name_core-clause-fails : goal.returns-in_err-name_core-clause-fails
returns-in_err-name_core-clause-fails g c =
    let p = c.args.tracer.now in
    let q = c.conflict_step.new.proof in
    let x = c.args.ctx.now in
    let z = c.name_core.new.ctx in
    let (lines, steps, (simplifies_root, learns, takes)) = (c.in_ok-conflict_step.ensures {u = tt}).made.goes.steps in
    let fails : FailsStep p.proof q.proof x z step.Memory = record {
      broken = proof-breaks-on p.proof q.proof q.proof _ 0 takes.logged (proof-unbroken q.proof);
      full = λ e. absurd cc;
    } in
    passed-on c.from_residual-in_err-name_core.result step.Memory (λ e. FailsStep p.proof q.proof x z e) c.from_residual-in_err-name_core.ensures fails
