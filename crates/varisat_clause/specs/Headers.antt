-- What is noted of a clause, and how it stands in three words.
use Rattle.std.specs.Prelude.{ℕ, ◌+◌, ◌*◌, ◌/◌, ◌%◌, Bool, false, nat_eq, cond}
use Rattle.varisat_clause.specs.declared.header.Tier.{Tier}
use Rattle.varisat_clause.specs.declared.header.Tier.TheVariants.{Irred}
use Rattle.varisat_clause.specs.Tiers.{tier_index, tier_of}

-- Of a clause that is not Irred the others say the same: it may be deleted. Its glue is at most 63.
pub record Header : Type 0 where
  pub activity : ℕ
  pub tier : Tier
  pub deleted : Bool
  pub mark : Bool
  pub glue : ℕ
  pub active : Bool
  pub len : ℕ

-- the header of a new clause without literals
abbrev pub no_header : Header
no_header = record { activity = 0; tier = Irred; deleted = false; mark = false; glue = 0; active = false; len = 0 }

-- The header of three words: the activity, the flags, the length. Of the flags bits 0 and 1 are the tier, bit 2 is
-- deleted, bit 3 the mark, bits 4 to 9 are the glue, and bit 10 is active.
abbrev pub header_of_words : ℕ → ℕ → ℕ → Header
header_of_words activity flags len = record {
  activity = activity;
  tier = tier_of (flags % 4);
  deleted = nat_eq (flags / 4 % 2) 1;
  mark = nat_eq (flags / 8 % 2) 1;
  glue = flags / 16 % 64;
  active = nat_eq (flags / 1024) 1;
  len = len;
}

-- a bit as a number
abbrev pub bit : Bool → ℕ
bit b = cond b 1 0

-- the flags of a header
abbrev pub flags_of : Header → ℕ
flags_of h = tier_index h.tier + 4 * bit h.deleted + 8 * bit h.mark + 16 * h.glue + 1024 * bit h.active
