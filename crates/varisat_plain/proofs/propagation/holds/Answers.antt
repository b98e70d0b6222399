use Rattle.varisat_plain.proofs.Scans.{found}
use Rattle.varisat_plain.proofs.propagation.holds.Goals as goal

pub returns : goal.returns
returns c = found c.args.literal c.args.literals.now c.contains.result c.contains.ensures.value
