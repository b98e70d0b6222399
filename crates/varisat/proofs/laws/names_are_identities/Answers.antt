use Rattle.varisat.proofs.NameLaws.{names-are-identities}
use Rattle.varisat.proofs.laws.names_are_identities.Goals as goal

pub returns : goal.returns
returns c = names-are-identities
