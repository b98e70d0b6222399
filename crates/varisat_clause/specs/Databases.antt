-- What a database notes of the clauses of a store: how many there are of each tier, and which, and the words of the deleted ones.
use Rattle.std.specs.Prelude.{◌≡◌, ℕ, ◌+◌, ◌-◌, Bool, true, not, ◌&&◌, cond, List, [], ◌∷◌, ◌++◌, length}
use Rattle.varisat_theory.specs.promises.Membership.{◌∈◌}
use Rattle.varisat_clause.specs.declared.header.Tier.{Tier}
use Rattle.varisat_clause.specs.declared.header.Tier.TheVariants.{Irred, Core, Mid, Local}
use Rattle.varisat_clause.specs.declared.db.TierCounts.{TierCounts}
use Rattle.varisat_clause.specs.Tiers.{is_tier}
use Rattle.varisat_clause.specs.Stored.{StoredClause, IsClauseRef}
use Rattle.varisat_clause.specs.Stores.{Store, stored_clauses, IsSound}

-- the count of a tier
abbrev pub count_of : Tier → TierCounts → ℕ
count_of Irred c = c.irred
count_of Core c = c.core
count_of Mid c = c.mid
count_of Local c = c.local

-- one clause more in the tier
abbrev pub raised : Tier → TierCounts → TierCounts
raised Irred c = record c { irred = c.irred + 1 }
raised Core c = record c { core = c.core + 1 }
raised Mid c = record c { mid = c.mid + 1 }
raised Local c = record c { local = c.local + 1 }

-- one clause less in the tier
abbrev pub lowered : Tier → TierCounts → TierCounts
lowered Irred c = record c { irred = c.irred - 1 }
lowered Core c = record c { core = c.core - 1 }
lowered Mid c = record c { mid = c.mid - 1 }
lowered Local c = record c { local = c.local - 1 }

-- places for each tier
pub record ListsByTier : Type 0 where
  pub irred : List ℕ
  pub core : List ℕ
  pub mid : List ℕ
  pub local : List ℕ

-- no clause in any list
abbrev pub no_lists : ListsByTier
no_lists = record { irred = []; core = []; mid = []; local = [] }

-- the list of the tier
abbrev pub tier_list : Tier → ListsByTier → List ℕ
tier_list Irred l = l.irred
tier_list Core l = l.core
tier_list Mid l = l.mid
tier_list Local l = l.local

-- another list for a tier
abbrev pub with_tier_list : Tier → List ℕ → ListsByTier → ListsByTier
with_tier_list Irred ps l = record l { irred = ps }
with_tier_list Core ps l = record l { core = ps }
with_tier_list Mid ps l = record l { mid = ps }
with_tier_list Local ps l = record l { local = ps }

-- a place behind the others of its tier
abbrev pub pushed : Tier → ℕ → ListsByTier → ListsByTier
pushed t p l = with_tier_list t (tier_list t l ++ p ∷ []) l

-- The counts are of the clauses that are not deleted, and the garbage is the words of the others. A list may also name
-- clauses that were deleted or are of another tier by now, and a clause twice.
pub record Database : Type 0 where
  pub counts : TierCounts
  pub garbage : ℕ
  pub lists : ListsByTier

-- no clause of any tier
abbrev pub no_counts : TierCounts
no_counts = record { irred = 0; core = 0; mid = 0; local = 0 }

-- before the first clause
abbrev pub no_database : Database
no_database = record { counts = no_counts; garbage = 0; lists = no_lists }

-- a clause of the tier was added at the place
abbrev pub with_added : Tier → ℕ → Database → Database
with_added t p d = record d { counts = raised t d.counts; lists = pushed t p d.lists }

-- the clause at the place went from one tier to another
abbrev pub with_moved : ℕ → Tier → Tier → Database → Database
with_moved p from to d = record d { counts = raised to (lowered from d.counts); lists = pushed to p d.lists }

-- a clause of the tier with so many literals was deleted
abbrev pub with_deleted : Tier → ℕ → Database → Database
with_deleted t n d = record d { counts = lowered t d.counts; garbage = d.garbage + 3 + n }

-- not deleted
abbrev pub is_live : StoredClause → Bool
is_live k = not k.header.deleted

-- the clause is of the tier and not deleted
abbrev pub is_live_in : Tier → StoredClause → Bool
is_live_in t k = is_live k && is_tier t k.header.tier

-- a sum over the clauses
abbrev pub total : (StoredClause → ℕ) → List StoredClause → ℕ
total w [] = 0
total w (k ∷ ks) = w k + total w ks

-- how many words a clause takes
abbrev pub size_of : StoredClause → ℕ
size_of k = 3 + length k.literals

-- how many clauses of the tier are not deleted
abbrev pub live_count : Tier → List StoredClause → ℕ
live_count t ks = total (λ k. cond (is_live_in t k) 1 0) ks

-- the words of the deleted clauses
abbrev pub garbage_of : List StoredClause → ℕ
garbage_of ks = total (λ k. cond k.header.deleted (size_of k) 0) ks

-- The database fits the store: its counts and its garbage are exact, and each clause that is not deleted stands in the
-- list of its tier.
pub record Tracks (d : Database) (s : Store) : Type 0 where
  pub sound : IsSound s
  pub counts : (t : Tier) → count_of t d.counts ≡ live_count t (stored_clauses s)
  pub garbage : d.garbage ≡ garbage_of (stored_clauses s)
  pub listed : (k : StoredClause) → k ∈ stored_clauses s → is_live k ≡ true → k.place ∈ tier_list k.header.tier d.lists
  pub known : (t : Tier) (p : ℕ) → p ∈ tier_list t d.lists → IsClauseRef (stored_clauses s) p
