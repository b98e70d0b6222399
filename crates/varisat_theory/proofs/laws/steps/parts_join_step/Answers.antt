use Rattle.varisat_theory.proofs.steps.StepAccounts.{part_step, step_part}
use Rattle.varisat_theory.proofs.laws.steps.parts_join_step.Goals as goal

pub returns : goal.returns
returns c = (part_step, step_part)
