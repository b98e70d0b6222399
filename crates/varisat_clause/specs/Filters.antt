-- What goes over the clauses of a store, and what a filter leaves of them.
use Rattle.std.specs.Prelude.{◌≡◌, ℕ, Bool, true, false, not, List, [], ◌∷◌, ◌++◌, map}
use Rattle.varisat_clause.specs.Stored.{StoredClause, stored_at, header_at, with_header}
use Rattle.varisat_clause.specs.Stores.{Store, stored_clauses, RewritesClauseAt}
use Rattle.varisat_clause.specs.Collected.{live_of}

-- the places of the clauses that are not deleted
abbrev pub live_places : List StoredClause → List ℕ
live_places ks = map (λ k. k.place) (live_of ks)

-- the clause at the place is deleted
abbrev pub deleted_at : List StoredClause → ℕ → List StoredClause
deleted_at ks p = with_header ks p (record (header_at ks p) { deleted = true })

-- the clause at the place, which was not deleted, is another one of the same tier that is not deleted, and no other clause changed
pub record Alters (old new : Store) (p : ℕ) : Type 0 where
  pub clause : StoredClause
  pub place : clause.place ≡ p
  pub tier : clause.header.tier ≡ (header_at (stored_clauses old) p).tier
  pub live : clause.header.deleted ≡ false
  pub is : RewritesClauseAt old new p (λ _. clause)

-- the clause stays, or it is deleted
abbrev pub left_if : Bool → StoredClause → StoredClause
left_if stays k = record k { header = record k.header { deleted = not stays } }

-- a filter came to the clause at the place
pub record FiltersAt {F : Type 0} (Leaves : F → StoredClause → StoredClause → F → Type 0) (f g : F) (old new : Store)
    (p : ℕ) : Type 0 where
  pub clause : StoredClause
  pub place : clause.place ≡ p
  pub tier : clause.header.tier ≡ (header_at (stored_clauses old) p).tier
  pub left : Leaves f (stored_at (stored_clauses old) p) clause g
  pub is : RewritesClauseAt old new p (λ _. clause)

-- A filter f comes to the clause k, leaves j of it, and is g then. One that was deleted before is passed over. Another one
-- keeps its place and its tier, and the rest is the filter's own relation.
pub data FiltersOne {F : Type 0} (Leaves : F → StoredClause → StoredClause → F → Type 0) (f : F) (k j : StoredClause)
    (g : F) : Type 0 where
  PassesOver : k.header.deleted ≡ true → j ≡ k → g ≡ f → FiltersOne Leaves f k j g
  ComesTo : k.header.deleted ≡ false → j.place ≡ k.place → j.header.tier ≡ k.header.tier → Leaves f k j g →
      FiltersOne Leaves f k j g

-- it goes over the clauses one after another, and leaves as many
abbrev pub Filters : {F : Type 0} → (F → StoredClause → StoredClause → F → Type 0) → F → List StoredClause →
    List StoredClause → F → Type 0
Filters Leaves f [] [] g = g ≡ f
Filters Leaves f [] (j ∷ js) g = ⊥
Filters Leaves f (k ∷ ks) [] g = ⊥
Filters {F} Leaves f (k ∷ ks) (j ∷ js) h = (g : F) × FiltersOne Leaves f k j g × Filters Leaves g ks js h

-- it stops behind the first clauses, and the others stay as they are
pub record StopsWithin {F : Type 0} (Leaves : F → StoredClause → StoredClause → F → Type 0) (f : F)
    (ks js : List StoredClause) : Type 0 where
  pub first : List StoredClause
  pub rest : List StoredClause
  pub left : List StoredClause
  pub filter : F
  pub old : ks ≡ first ++ rest
  pub filtered : Filters Leaves f first left filter
  pub new : js ≡ left ++ rest
