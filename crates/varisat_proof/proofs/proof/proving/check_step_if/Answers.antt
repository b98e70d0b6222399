use Rattle.varisat_proof.proofs.LoggedSteps.{taken-step, right-step, spent-step}
use Rattle.varisat_proof.proofs.proof.proving.check_step_if.Goals as goal

pub returns-clause-taken : goal.returns-clause-taken
returns-clause-taken g c = taken-step c.args.checker.now c.in-Some.checker c.check_step.new.self c.args.step.now c.check_step.result c.in-Some.is
    c.check_step.ensures

pub returns-clause-right : goal.returns-clause-right
returns-clause-right g c = right-step c.args.checker.now c.in-Some.checker c.check_step.new.self c.args.step.now c.check_step.result c.in-Some.is
    c.requires.usable c.requires.right c.check_step.ensures

pub returns-clause-spent : goal.returns-clause-spent
returns-clause-spent g c =
    spent-step c.args.checker.now c.in-Some.checker c.check_step.new.self c.args.step.now c.check_step.result c.in-Some.is
    (right-step c.args.checker.now c.in-Some.checker c.check_step.new.self c.args.step.now c.check_step.result c.in-Some.is c.requires.usable
    c.requires.right c.check_step.ensures)
    c.check_step.ensures
