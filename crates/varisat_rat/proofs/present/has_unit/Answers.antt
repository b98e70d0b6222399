use Rattle.varisat_present.proofs.PlacedClauses.{unit_there}
use Rattle.varisat_rat.proofs.present.has_unit.Goals as goal

pub returns-in-Some : goal.returns-in-Some
returns-in-Some g c = λ e. unit_there c.args.places.now c.in-Some.field-0 c.args.literal c.in-Some.ensures
