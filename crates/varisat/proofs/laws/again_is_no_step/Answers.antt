use Rattle.varisat_solver.proofs.entries.StepEntries.{again-is-no-step}
use Rattle.varisat.proofs.laws.again_is_no_step.Goals as goal

pub returns : goal.returns
returns c = again-is-no-step
