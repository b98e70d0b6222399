-- The tiers of clauses.
use Rattle.std.specs.Prelude.{ℕ, zero, suc, Bool, nat_eq}
use Rattle.varisat_clause.specs.declared.header.Tier.{Tier}
use Rattle.varisat_clause.specs.declared.header.Tier.TheVariants.{Irred, Core, Mid, Local}

-- the number of a tier
abbrev pub tier_index : Tier → ℕ
tier_index Irred = 0
tier_index Core = 1
tier_index Mid = 2
tier_index Local = 3

-- the tier of a number. From 3 on it is Local.
abbrev pub tier_of : ℕ → Tier
tier_of zero = Irred
tier_of (suc zero) = Core
tier_of (suc (suc zero)) = Mid
tier_of (suc (suc (suc n))) = Local

-- whether two tiers are the same
abbrev pub is_tier : Tier → Tier → Bool
is_tier t u = nat_eq (tier_index t) (tier_index u)
