use Rattle.varisat_theory.proofs.journals.StepCounts.{by_derives}
use Rattle.varisat_theory.proofs.laws.steps.counted_derives.Goals as goal

pub returns : goal.returns
returns c = by_derives
