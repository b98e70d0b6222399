use Rattle.varisat.proofs.NameLaws.{too-many-is-past-limit}
use Rattle.varisat.proofs.laws.too_many_is_past_limit.Goals as goal

pub returns : goal.returns
returns c = too-many-is-past-limit
