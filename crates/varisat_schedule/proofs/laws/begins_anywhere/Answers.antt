use Rattle.varisat_schedule.proofs.StepsWithout.{begins-anywhere}
use Rattle.varisat_schedule.proofs.laws.begins_anywhere.Goals as goal

pub returns : goal.returns
returns c = begins-anywhere
