use Rattle.varisat.proofs.NameLaws.{stays-in-order}
use Rattle.varisat.proofs.laws.names_stay_in_order.Goals as goal

pub returns : goal.returns
returns c = stays-in-order
