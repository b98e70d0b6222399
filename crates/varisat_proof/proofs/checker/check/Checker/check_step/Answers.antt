use Rattle.std.proofs.Common.{sym, ap, subst, ◌∙◌}
use Rattle.varisat_steps.specs.declared.step.ProofStep.{ProofStep}
use Rattle.varisat_steps.specs.declared.step.ProofStep.TheVariants.{AtClause, DeleteClause}
use Rattle.varisat_proof.specs.promises.Calls.{IsStep}
use Rattle.varisat_proof.proofs.CheckedSteps.{step_is}
use Rattle.varisat_proof.proofs.checker.check.Checker.check_step.Goals as goal

pub returns-in-AtClause : goal.returns-in-AtClause
returns-in-AtClause g c =
    subst (λ (s : ProofStep). IsStep c.args.self.now s c.check_added.result c.check_added.new.self) (sym c.in-AtClause.is)
    (step_is c.args.self.now c.check_added.new.self (AtClause c.in-AtClause.clause) c.check_added.result
    (sym (ap (λ h. h.spent) c.self.view_is) ∙ c.if-self.false) c.check_added.ensures)

pub returns-in-DeleteClause : goal.returns-in-DeleteClause
returns-in-DeleteClause g c =
    subst (λ (s : ProofStep). IsStep c.args.self.now s c.check_deleted.result c.check_deleted.new.self) (sym c.in-DeleteClause.is)
    (step_is c.args.self.now c.check_deleted.new.self (DeleteClause c.in-DeleteClause.clause) c.check_deleted.result
    (sym (ap (λ h. h.spent) c.self.view_is) ∙ c.if-self.false) c.check_deleted.ensures)
