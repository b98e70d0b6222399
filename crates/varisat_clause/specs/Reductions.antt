-- What the reductions leave of the clauses, and the list of a tier.
use Rattle.std.specs.Prelude.{◌≡◌, ℕ, zero, suc, ◌+◌, ◌*◌, ◌/◌, ◌^◌, slice_index, ◌<◌, ◌⊎◌, Bool, true, false, not, ◌&&◌, if◌then◌else◌, List, [], ◌∷◌, length, map}
use Rattle.varisat_theory.specs.promises.Membership.{◌∈◌, IsDistinct}
use Rattle.varisat_clause.specs.declared.header.Tier.{Tier}
use Rattle.varisat_clause.specs.declared.header.Tier.TheVariants.{Mid, Local}
use Rattle.varisat_clause.specs.Stored.{StoredClause, IsClauseRef, stored_at, header_at, with_stored}
use Rattle.varisat_clause.specs.Stores.{Store, stored_clauses, IsSound, RewritesClauses}
use Rattle.varisat_clause.specs.Databases.{is_live_in}
use Rattle.varisat_clause.specs.Filters.{deleted_at}

-- orders by activity and then by place
abbrev pub rank_in : List ℕ → ℕ → ℕ
rank_in ws p = slice_index ws p * 2 ^ 32 + p

-- the places of the clauses of the tier that are not deleted
abbrev pub places_in : Tier → List StoredClause → List ℕ
places_in t [] = []
places_in t (k ∷ ks) = if is_live_in t k then k.place ∷ places_in t ks else places_in t ks

-- the places are those of the clauses of the tier that are not deleted, each once
pub record ListsTier (t : Tier) (ks : List StoredClause) (ps : List ℕ) : Type 0 where
  pub known : (p : ℕ) → p ∈ ps → IsClauseRef ks p
  pub live : (p : ℕ) → p ∈ ps → is_live_in t (stored_at ks p) ≡ true
  pub complete : (k : StoredClause) → k ∈ ks → is_live_in t k ≡ true → k.place ∈ ps
  pub distinct : IsDistinct ps

-- the clause is of the tier, not deleted and not marked
abbrev pub is_unmarked_in : Tier → StoredClause → Bool
is_unmarked_in t k = is_live_in t k && not k.header.mark

-- no clause of the tier that is not deleted is marked
abbrev pub AreUnmarkedIn : Tier → List StoredClause → Type 0
AreUnmarkedIn t ks = (k : StoredClause) → k ∈ ks → is_live_in t k ≡ true → k.header.mark ≡ false

-- the clause with its mark or without it
abbrev pub marked_as : Bool → StoredClause → StoredClause
marked_as b k = record k { header = record k.header { mark = b } }

-- the clause at the place is marked or unmarked
abbrev pub with_mark : Bool → List StoredClause → ℕ → List StoredClause
with_mark b ks p = with_stored ks p (marked_as b (stored_at ks p))

-- each clause of the tier that is not deleted is marked
abbrev pub tier_marked : Tier → List StoredClause → List StoredClause
tier_marked t ks = map (λ k. if is_live_in t k then marked_as true k else k) ks

-- The places are those of clauses, also of deleted ones and others, and a place may stand twice. Each clause of the tier
-- that is not deleted is among them, and has no mark.
pub record CanMarkTier (t : Tier) (s : Store) (ps : List ℕ) : Type 0 where
  pub sound : IsSound s
  pub known : (p : ℕ) → p ∈ ps → IsClauseRef (stored_clauses s) p
  pub complete : (k : StoredClause) → k ∈ stored_clauses s → is_live_in t k ≡ true → k.place ∈ ps
  pub unmarked : AreUnmarkedIn t (stored_clauses s)

-- the places are those of the clauses of the tier that are not deleted, each once, and these clauses are marked
pub record MarksTier (t : Tier) (old new : Store) (ps : List ℕ) : Type 0 where
  pub listed : ListsTier t (stored_clauses old) ps
  pub marked : RewritesClauses old new (tier_marked t)

-- the clause at the first place is less active, or as active and before the other
abbrev pub Precedes : List StoredClause → ℕ → ℕ → Type 0
Precedes ks p q =
    ((header_at ks p).activity < (header_at ks q).activity)
    ⊎ (((header_at ks p).activity ≡ (header_at ks q).activity) × (p < q))

-- each precedes all that are behind it
abbrev pub AreRanked : List StoredClause → List ℕ → Type 0
AreRanked ks [] = Unit {0}
AreRanked ks (p ∷ ps) = ((q : ℕ) → q ∈ ps → Precedes ks p q) × AreRanked ks ps

-- the first n of the places at which the clause is not marked
abbrev pub unmarked_places : List StoredClause → ℕ → List ℕ → List ℕ
unmarked_places ks n [] = []
unmarked_places ks zero (p ∷ ps) = []
unmarked_places ks (suc n) (p ∷ ps) =
    if (header_at ks p).mark then unmarked_places ks (suc n) ps else p ∷ unmarked_places ks n ps

-- the clauses at the places are deleted
abbrev pub all_deleted : List ℕ → List StoredClause → List StoredClause
all_deleted [] ks = ks
all_deleted (p ∷ ps) ks = all_deleted ps (deleted_at ks p)

-- Of the Local clauses that are not deleted, in the order of activity and then of places, half (rounded down) are
-- deleted, the first ones that are not marked, or all such if they are fewer. No other clause changes.
pub record ReducesLocals (old new : Store) : Type 0 where
  pub order : List ℕ
  pub listed : ListsTier Local (stored_clauses old) order
  pub ranked : AreRanked (stored_clauses old) order
  pub deleted : RewritesClauses old new (all_deleted (unmarked_places (stored_clauses old) (length order / 2) order))

-- A Mid clause that is active loses the flag, and one that is not becomes Local. Others stay.
abbrev pub mid_reduced : StoredClause → StoredClause
mid_reduced k =
    if is_live_in Mid k then (
    if k.header.active then record k { header = record k.header { active = false } }
    else record k { header = record k.header { tier = Local } }) else k

-- the clauses once the tier Mid is reduced
abbrev pub mids_reduced : List StoredClause → List StoredClause
mids_reduced ks = map mid_reduced ks

-- the first i clauses are changed, and the others are not
abbrev pub mapped_up_to : (StoredClause → StoredClause) → ℕ → List StoredClause → List StoredClause
mapped_up_to f zero ks = ks
mapped_up_to f (suc i) [] = []
mapped_up_to f (suc i) (k ∷ ks) = f k ∷ mapped_up_to f i ks
