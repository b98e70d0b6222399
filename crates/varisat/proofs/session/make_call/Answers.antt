use Rattle.std.proofs.Common.{List, ℕ, refl, subst}
use Rattle.varisat_solver.specs.promises.Calls.{AddsClause, Assumes, with_max_steps}
use Rattle.varisat.proofs.session.make_call.Goals as goal

pub returns-in-AddClause : goal.returns-in-AddClause
returns-in-AddClause g c s st =
    let (t, a, w) = c.add_clause.ensures.call s st in
    rw c.in-AddClause.is (t, subst (λ (d : List ℕ). AddsClause s d c.add_clause.result t) c.deref.ensures.value a, w)

pub returns-in-AddFormula : goal.returns-in-AddFormula
returns-in-AddFormula g c s st = rw c.in-AddFormula.is (c.add_formula.ensures.call s st)

pub add_dimacs_cnf-added-requires : goal.add_dimacs_cnf-added-requires
add_dimacs_cnf-added-requires g c = rw c.in-AddDimacsCnf.is at c.requires

pub returns-in-AddDimacsCnf : goal.returns-in-AddDimacsCnf
returns-in-AddDimacsCnf g c s st = rw c.in-AddDimacsCnf.is (c.add_dimacs_cnf-added.ensures.call s st)

pub returns-in-NewVar : goal.returns-in-NewVar
returns-in-NewVar g c s st = rw c.in-NewVar.is (c.new_var.ensures s st)

pub returns-in-SampleVar : goal.returns-in-SampleVar
returns-in-SampleVar g c s st = rw c.in-SampleVar.is (c.sample_var.ensures s st)

pub returns-in-WitnessVar : goal.returns-in-WitnessVar
returns-in-WitnessVar g c s st = rw c.in-WitnessVar.is (c.witness_var.ensures s st)

pub returns-in-HideVar : goal.returns-in-HideVar
returns-in-HideVar g c s st = rw c.in-HideVar.is (c.hide_var.ensures s st)

pub returns-in-ObserveInternalVars : goal.returns-in-ObserveInternalVars
returns-in-ObserveInternalVars g c s st = rw c.in-ObserveInternalVars.is (c.observe_internal_vars.ensures s st)

pub returns-in-SetPhase : goal.returns-in-SetPhase
returns-in-SetPhase g c s st = rw c.in-SetPhase.is (c.set_phase.ensures s st)

pub returns-in-UnsetPhase : goal.returns-in-UnsetPhase
returns-in-UnsetPhase g c s st = rw (c.in-UnsetPhase.is, c.unset_phase.ensures) (s, refl, st)

pub returns-in-Assume : goal.returns-in-Assume
returns-in-Assume g c s st =
    let (t, a, w) = c.assume.ensures.call s st in
    rw c.in-Assume.is (t, subst (λ (d : List ℕ). Assumes s d c.assume.result t) c.deref-in-Assume.ensures.value a, w)

pub returns-in-Solve : goal.returns-in-Solve
returns-in-Solve g c s st = rw c.in-Solve.is (c.solve.ensures.call s st)

pub returns-in-Model : goal.returns-in-Model
returns-in-Model g c s st = rw c.in-Model.is (c.model.ensures.call s st)

pub returns-in-FailedCore : goal.returns-in-FailedCore
returns-in-FailedCore g c s st = rw c.in-FailedCore.is (c.copy_core.ensures s st)

pub returns-in-Config : goal.returns-in-Config
returns-in-Config g c s st = rw c.in-Config.is (c.config.ensures s st)

pub returns-in-SetMaxSteps : goal.returns-in-SetMaxSteps
returns-in-SetMaxSteps g c s st =
    rw c.in-SetMaxSteps.is (with_max_steps c.in-SetMaxSteps.max_steps s, refl, c.set_max_steps.ensures s st)

pub returns-in-Steps : goal.returns-in-Steps
returns-in-Steps g c s st = rw c.in-Steps.is (c.steps.ensures s st)

pub returns-in-IsValid : goal.returns-in-IsValid
returns-in-IsValid g c s st = rw c.in-IsValid.is (c.is_valid.ensures.call s st)

pub returns-in-IsFixed : goal.returns-in-IsFixed
returns-in-IsFixed g c s st = rw c.in-IsFixed.is (c.is_fixed.ensures.call s st)

pub write_proof-requires : goal.write_proof-requires
write_proof-requires g c = rw c.in-WriteProof.is at c.requires

pub returns-in-WriteProof : goal.returns-in-WriteProof
returns-in-WriteProof g c s st = rw c.in-WriteProof.is (c.write_proof.ensures s st)

pub returns-in-CloseProof : goal.returns-in-CloseProof
returns-in-CloseProof g c s st = rw c.in-CloseProof.is (c.close_proof.ensures.call s st)

pub returns-in-StepsSinceChange : goal.returns-in-StepsSinceChange
returns-in-StepsSinceChange g c s st = rw c.in-StepsSinceChange.is (c.steps_since_change.ensures s st)

pub returns-in-EnableSelfChecking : goal.returns-in-EnableSelfChecking
returns-in-EnableSelfChecking g c s st = rw c.in-EnableSelfChecking.is (c.enable_self_checking.ensures.call s st)
