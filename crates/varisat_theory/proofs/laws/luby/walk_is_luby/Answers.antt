use Rattle.varisat_theory.proofs.bounds.LubyWalk.{walk-luby}
use Rattle.varisat_theory.proofs.laws.luby.walk_is_luby.Goals as goal

pub returns : goal.returns
returns c = walk-luby
