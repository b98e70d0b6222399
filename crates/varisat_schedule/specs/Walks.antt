-- Where the Luby sequence stands in Knuth's walk.
use Rattle.std.specs.Prelude.{◌≡◌, ℕ, ◌^◌}
use Rattle.varisat_theory.specs.inside.Luby.{walk_at}

-- after so many terms the walk stands at the place, and its next term is the power
pub record IsWalkAfter (given place power : ℕ) : Type 0 where
  pub place_is : place ≡ (walk_at given).place
  pub power_is : power ≡ 2 ^ (walk_at given).exponent
