use Rattle.varisat_schedule.proofs.StepsWithout.{is-short-without}
use Rattle.varisat_schedule.proofs.laws.is_short_without.Goals as goal

pub returns : goal.returns
returns c = is-short-without
