use Rattle.varisat.proofs.NameLaws.{given-is-accepted}
use Rattle.varisat.proofs.laws.given_is_accepted.Goals as goal

pub returns : goal.returns
returns c = given-is-accepted
