-- Stored clauses of which the headers alone change.
use Rattle.std.proofs.Common.{◌≡◌, ℕ, Bool, true, false, not, nat_eq, ◌<◌, List, [], ◌∷◌, map, inl, inr, ⊎_elim, refl, sym, ap, ap₂, ◌∙◌, subst}
use Rattle.std.specs.Prelude.{cond}
use Rattle.varisat_theory.specs.promises.Membership.{◌∈◌}
use Rattle.varisat_theory.specs.promises.Literals.{Clause, opposite}
use Rattle.varisat_theory.proofs.clauses.Members.{equal_or_not}
use Rattle.varisat_clause.specs.declared.header.Tier.TheVariants as tier
use Rattle.varisat_clause.specs.Tiers.{is_tier}
use Rattle.varisat_clause.specs.Headers.{Header}
use Rattle.varisat_clause.specs.Stored.{StoredClause, literals_of, literals_at, stored_at, header_at, with_stored, with_header, IsClauseRef, AreRising}
use Rattle.varisat_clause.specs.Collected.{live_of}
use Rattle.varisat_clause.proofs.StoredClauses.{stored-here, stored-later, clause-here, clause-later}
use Rattle.varisat_prop.specs.Watches.{Watches, watches_of, literal_in, IsWatchedBy, HasWatch, IsWatching}
use Rattle.varisat_analysis.specs.HeaderChanges.{kept_clause, PlacedClause, placed_clause, SameButHeaders}

pub headers-refl : (ks : List StoredClause) → SameButHeaders ks ks
headers-refl ks = refl

pub headers-trans : (ks js is : List StoredClause) → SameButHeaders ks js → SameButHeaders js is → SameButHeaders ks is
headers-trans ks js is d e = e ∙ d

placed-∈ : (ks : List StoredClause) (k : StoredClause) → k ∈ ks → placed_clause k ∈ map placed_clause ks
placed-∈ [] k h = absurd h
placed-∈ (j ∷ ks) k (inl e) = inl (ap placed_clause e)
placed-∈ (j ∷ ks) k (inr h) = inr (placed-∈ ks k h)

∈-placed : (ks : List StoredClause) (x : PlacedClause) → x ∈ map placed_clause ks → (k : StoredClause) × (k ∈ ks) × (x ≡ placed_clause k)
∈-placed [] x h = absurd h
∈-placed (k ∷ ks) x (inl e) = (k, inl refl, e)
∈-placed (k ∷ ks) x (inr h) = let (j, i, e) = ∈-placed ks x h in (j, inr i, e)

-- each clause was one before, but for its header
pub headers-found : (ks js : List StoredClause) (j : StoredClause) → SameButHeaders ks js → j ∈ js → (k : StoredClause) × (k ∈ ks)
    × (placed_clause j ≡ placed_clause k)
headers-found ks js j d h = ∈-placed ks (placed_clause j) (subst (λ xs. placed_clause j ∈ xs) d (placed-∈ js j h))

pub headers-place : (ks js : List StoredClause) (p : ℕ) → SameButHeaders ks js → IsClauseRef ks p → IsClauseRef js p
headers-place ks js p d (k, h, q) =
    let (j, i, e) = headers-found js ks k (sym d) h in
    (j, i, sym (ap (λ (x : PlacedClause). x.place) e) ∙ q)

-- literals and what a proof sees, by the clauses without their headers
placed-literals : (ks : List StoredClause) → literals_of ks ≡ map (λ (x : PlacedClause). x.kept.clause) (map placed_clause ks)
placed-literals [] = refl
placed-literals (k ∷ ks) = ap (λ cs. k.literals ∷ cs) (placed-literals ks)

placed-kept : (ks : List StoredClause) → map kept_clause ks ≡ map (λ (x : PlacedClause). x.kept) (map placed_clause ks)
placed-kept [] = refl
placed-kept (k ∷ ks) = ap (λ cs. kept_clause k ∷ cs) (placed-kept ks)

abbrev literals-placed : List PlacedClause → ℕ → Clause
literals-placed [] p = []
literals-placed (x ∷ xs) p = cond (nat_eq x.place p) x.kept.clause (literals-placed xs p)

placed-at : (ks : List StoredClause) (p : ℕ) → literals_at ks p ≡ literals-placed (map placed_clause ks) p
placed-at [] p = refl
placed-at (k ∷ ks) p = go (nat_eq k.place p) (placed-at ks p)
  where
    go : (b : Bool) → literals_at ks p ≡ literals-placed (map placed_clause ks) p →
        (cond b k (stored_at ks p)).literals ≡ cond b k.literals (literals-placed (map placed_clause ks) p)
    go true e = refl
    go false e = e

abbrev RisePlaced : List PlacedClause → Type 0
RisePlaced [] = Unit {0}
RisePlaced (x ∷ xs) = ((y : PlacedClause) → y ∈ xs → x.place < y.place) × RisePlaced xs

to-placed : (ks : List StoredClause) → AreRising ks → RisePlaced (map placed_clause ks)
to-placed [] r = tt
to-placed (k ∷ ks) r =
    ((λ y h. let (j, i, e) = ∈-placed ks y h in subst (λ n. k.place < n) (sym (ap (λ (x : PlacedClause). x.place) e)) (r.0 j i)), to-placed ks r.1)

from-placed : (ks : List StoredClause) → RisePlaced (map placed_clause ks) → AreRising ks
from-placed [] r = tt
from-placed (k ∷ ks) r = ((λ j h. r.0 (placed_clause j) (placed-∈ ks j h)), from-placed ks r.1)

module _ (ks js : List StoredClause) (d : SameButHeaders ks js) where
  pub headers-literals : literals_of js ≡ literals_of ks
  headers-literals = placed-literals js ∙ ap (map (λ (x : PlacedClause). x.kept.clause)) d ∙ sym (placed-literals ks)

  pub headers-kept : map kept_clause js ≡ map kept_clause ks
  headers-kept = placed-kept js ∙ ap (map (λ (x : PlacedClause). x.kept)) d ∙ sym (placed-kept ks)

  pub headers-at : (p : ℕ) → literals_at js p ≡ literals_at ks p
  headers-at p = placed-at js p ∙ ap (λ xs. literals-placed xs p) d ∙ sym (placed-at ks p)

  pub headers-rising : AreRising ks → AreRising js
  headers-rising r = from-placed js (subst RisePlaced (sym d) (to-placed ks r))

  pub headers-watching : (W : Watches) → IsWatching W ks → IsWatching W js
  headers-watching W w = record {
    known = λ x y h. let k = w.known x y h in (
      headers-place ks js y.cref d k.0,
      subst (λ c. y.blocking ∈ c) (sym (headers-at y.cref)) k.1,
      subst (λ c. IsWatchedBy c (opposite x)) (sym (headers-at y.cref)) k.2,
    );
    once = w.once;
    watched = λ i j h b. subst (λ c. HasWatch (watches_of W (opposite (literal_in c j))) i) (sym (headers-at i))
        (w.watched i j (headers-place js ks i (sym d) h) b);
  }

-- a clause without its header but for whether it is deleted
pub record HeldClause : Type 0 where
  pub placed : PlacedClause
  pub deleted : Bool

abbrev pub held_clause : StoredClause → HeldClause
held_clause k = record { placed = placed_clause k; deleted = k.header.deleted }

abbrev live-placed : List HeldClause → List PlacedClause
live-placed [] = []
live-placed (x ∷ xs) = cond x.deleted (live-placed xs) (x.placed ∷ live-placed xs)

placed-live : (ks : List StoredClause) → map placed_clause (live_of ks) ≡ live-placed (map held_clause ks)
placed-live [] = refl
placed-live (k ∷ ks) = go k.header.deleted (placed-live ks)
  where
    go : (b : Bool) → map placed_clause (live_of ks) ≡ live-placed (map held_clause ks) →
        map placed_clause (cond b (live_of ks) (k ∷ live_of ks)) ≡ cond b (live-placed (map held_clause ks))
        (placed_clause k ∷ live-placed (map held_clause ks))
    go true e = e
    go false e = ap (λ xs. placed_clause k ∷ xs) e

-- Headers of a store's clauses change, and the same ones are deleted.
pub live-headers : (ks js : List StoredClause) → map held_clause js ≡ map held_clause ks → SameButHeaders (live_of ks) (live_of js)
live-headers ks js e = placed-live js ∙ ap live-placed e ∙ sym (placed-live ks)

-- each clause changes in what is not looked at
pub map-same : {X : Type 0} (look : StoredClause → X) (f : StoredClause → StoredClause) (ks : List StoredClause) →
    ((k : StoredClause) → look (f k) ≡ look k) → map look (map f ks) ≡ map look ks
map-same look f [] h = refl
map-same look f (k ∷ ks) h = ap₂ (λ x xs. x ∷ xs) (h k) (map-same look f ks h)

-- one clause does
pub with-same-look : {X : Type 0} (look : StoredClause → X) (ks : List StoredClause) (p : ℕ) (j : StoredClause) → look j ≡ look (stored_at ks p) →
    map look (with_stored ks p j) ≡ map look ks
with-same-look look [] p j e = refl
with-same-look look (k ∷ ks) p j e =
    ⊎_elim
    (λ q. ap (map look) (clause-here k ks p j q) ∙ ap (λ x. x ∷ map look ks) (e ∙ ap look (stored-here k ks p q)))
    (λ n. ap (map look) (clause-later k ks p j n) ∙ ap (λ xs. look k ∷ xs) (with-same-look look ks p j (e ∙ ap look (stored-later k ks p n))))
    (equal_or_not k.place p)

-- each header changes
pub live-map : (f : StoredClause → StoredClause) (ks : List StoredClause) → ((k : StoredClause) → held_clause (f k) ≡ held_clause k) →
    SameButHeaders (live_of ks) (live_of (map f ks))
live-map f ks h = live-headers ks (map f ks) (map-same held_clause f ks h)

-- one header does
pub live-header : (ks : List StoredClause) (p : ℕ) (h : Header) → h.deleted ≡ (header_at ks p).deleted →
    is_tier h.tier tier.Irred ≡ is_tier (header_at ks p).tier tier.Irred → SameButHeaders (live_of ks) (live_of (with_header ks p h))
live-header ks p h e f =
    let k : StoredClause = stored_at ks p in
    live-headers ks (with_header ks p h) (with-same-look held_clause ks p (record k { header = h })
    (ap₂ (λ (a b : Bool). record { placed = record { place = k.place; kept = record { clause = k.literals; learned = not a } }; deleted = b }) f e))
