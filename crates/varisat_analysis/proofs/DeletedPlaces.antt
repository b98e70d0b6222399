-- The clauses that are left where some were deleted, by their places.
use Rattle.std.proofs.Common.{◌≡◌, ℕ, zero, suc, Bool, true, false, not, List, [], ◌∷◌, map, cond, ◌⊎◌, inl, inr, ⊎_elim, refl, sym, ap, ap₂, ◌∙◌, subst}
use Rattle.std.specs.List.{filter}
use Rattle.varisat_theory.specs.promises.Membership.{◌∈◌}
use Rattle.varisat_theory.proofs.clauses.Members.{equal_or_not}
use Rattle.varisat_clause.specs.Stored.{StoredClause, IsClauseRef, AreRising, stored_at, header_at}
use Rattle.varisat_clause.specs.Collected.{live_of}
use Rattle.varisat_clause.specs.Filters.{deleted_at}
use Rattle.varisat_clause.specs.Reductions.{unmarked_places, all_deleted}
use Rattle.varisat_clause.proofs.StoredClauses.{clause-same, clause-other}
use Rattle.varisat_clause.proofs.DatabaseTracks.{place-is}
use Rattle.varisat_prop.proofs.pairs.SimplifiedPairs.{∈-filter}
use Rattle.varisat_analysis.specs.HeaderChanges.{PlacedClause, placed_clause, SameButHeaders}
use Rattle.varisat_analysis.proofs.SameButHeaders.{headers-place, with-same-look}

-- the places of those that a filter leaves rise too
pub filter-rising : (p : StoredClause → Bool) (ks : List StoredClause) → AreRising ks → AreRising (filter p ks)
filter-rising p [] r = tt
filter-rising p (k ∷ ks) r = go (p k) (filter-rising p ks r.1)
  where
    go : (b : Bool) → AreRising (filter p ks) → AreRising (cond b (k ∷ filter p ks) (filter p ks))
    go true s = ((λ j h. r.0 j (∈-filter p ks j h).0), s)
    go false s = s

-- deleting changes headers alone
pub one-placed : (ks : List StoredClause) (p : ℕ) → SameButHeaders ks (deleted_at ks p)
one-placed ks p = with-same-look placed_clause ks p (record (stored_at ks p) { header = record (header_at ks p) { deleted = true } }) refl

pub all-placed : (ps : List ℕ) (ks : List StoredClause) → SameButHeaders ks (all_deleted ps ks)
all-placed [] ks = refl
all-placed (p ∷ ps) ks = all-placed ps (deleted_at ks p) ∙ one-placed ks p

-- which clauses are deleted then
module _ (ks : List StoredClause) (p q : ℕ) (h : IsClauseRef ks p) where
  abbrev dead : StoredClause
  dead = record (stored_at ks p) { header = record (header_at ks p) { deleted = true } }

  pub one-stays : (header_at ks q).deleted ≡ true → (header_at (deleted_at ks p) q).deleted ≡ true
  one-stays e =
      ⊎_elim
      (λ f. subst (λ (x : ℕ). (header_at (deleted_at ks p) x).deleted ≡ true) (sym f)
      (ap (λ (x : StoredClause). x.header.deleted) (clause-same ks p dead h (place-is ks p h))))
      (λ n. ap (λ (x : StoredClause). x.header.deleted) (clause-other ks p q dead (place-is ks p h) n) ∙ e)
      (equal_or_not q p)

  one-from : (header_at (deleted_at ks p) q).deleted ≡ true → ((header_at ks q).deleted ≡ true) ⊎ (q ≡ p)
  one-from e =
      ⊎_elim
      inr
      (λ n. inl (sym (ap (λ (x : StoredClause). x.header.deleted) (clause-other ks p q dead (place-is ks p h) n)) ∙ e))
      (equal_or_not q p)

pub one-gone : (ks : List StoredClause) (p : ℕ) → IsClauseRef ks p → (header_at (deleted_at ks p) p).deleted ≡ true
one-gone ks p h = ap (λ (x : StoredClause). x.header.deleted) (clause-same ks p (dead ks p p h) h (place-is ks p h))

pub deleted-stays : (ps : List ℕ) (ks : List StoredClause) (q : ℕ) → ((p : ℕ) → p ∈ ps → IsClauseRef ks p) → (header_at ks q).deleted ≡ true →
    (header_at (all_deleted ps ks) q).deleted ≡ true
deleted-stays [] ks q h e = e
deleted-stays (p ∷ ps) ks q h e =
    deleted-stays ps (deleted_at ks p) q (λ x i. headers-place ks (deleted_at ks p) x (one-placed ks p) (h x (inr i))) (one-stays ks p q (h p (inl refl)) e)

pub deleted-from : (ps : List ℕ) (ks : List StoredClause) (q : ℕ) → ((p : ℕ) → p ∈ ps → IsClauseRef ks p) →
    (header_at (all_deleted ps ks) q).deleted ≡ true → ((header_at ks q).deleted ≡ true) ⊎ (q ∈ ps)
deleted-from [] ks q h e = inl e
deleted-from (p ∷ ps) ks q h e =
    ⊎_elim
    (λ f. ⊎_elim inl (λ g. inr (inl g)) (one-from ks p q (h p (inl refl)) f))
    (λ i. inr (inr i))
    (deleted-from ps (deleted_at ks p) q (λ x i. headers-place ks (deleted_at ks p) x (one-placed ks p) (h x (inr i))) e)

-- the places that a reduction takes
pub unmarked-∈ : (ks : List StoredClause) (n : ℕ) (ps : List ℕ) (q : ℕ) → q ∈ unmarked_places ks n ps → (q ∈ ps) × ((header_at ks q).mark ≡ false)
unmarked-∈ ks n [] q h = absurd h
unmarked-∈ ks zero (p ∷ ps) q h = absurd h
unmarked-∈ ks (suc n) (p ∷ ps) q h = go (header_at ks p).mark refl h (unmarked-∈ ks (suc n) ps q) (unmarked-∈ ks n ps q)
  where
    go : (b : Bool) → (header_at ks p).mark ≡ b → q ∈ cond b (unmarked_places ks (suc n) ps) (p ∷ unmarked_places ks n ps) →
        (q ∈ unmarked_places ks (suc n) ps → (q ∈ ps) × ((header_at ks q).mark ≡ false)) →
        (q ∈ unmarked_places ks n ps → (q ∈ ps) × ((header_at ks q).mark ≡ false)) → (q ∈ (p ∷ ps)) × ((header_at ks q).mark ≡ false)
    go true e i f g = let r = f i in (inr r.0, r.1)
    go false e (inl o) f g = (inl o, subst (λ (x : ℕ). (header_at ks x).mark ≡ false) (sym o) e)
    go false e (inr i) f g = let r = g i in (inr r.0, r.1)

pub same-head : {X : Type 0} (x y : X) (xs ys : List X) → (x ∷ xs) ≡ (y ∷ ys) → x ≡ y
same-head x y xs ys e = cc

pub same-tail : {X : Type 0} (x y : X) (xs ys : List X) → (x ∷ xs) ≡ (y ∷ ys) → xs ≡ ys
same-tail x y xs ys e = cc

-- Headers change, and deleted are then exactly the clauses of some places: the others that were not deleted are left.
pub live-filter : (gone : ℕ → Bool) (ks js : List StoredClause) → SameButHeaders ks js →
    ((j : StoredClause) → j ∈ js → j.header.deleted ≡ gone j.place) →
    ((k : StoredClause) → k ∈ ks → k.header.deleted ≡ true → gone k.place ≡ true) →
    SameButHeaders (filter (λ k. not (gone k.place)) (live_of ks)) (live_of js)
live-filter gone [] [] e a b = refl
live-filter gone [] (j ∷ js) e a b = absurd cc
live-filter gone (k ∷ ks) [] e a b = absurd cc
live-filter gone (k ∷ ks) (j ∷ js) e a b =
    let h = same-head (placed_clause j) (placed_clause k) (map placed_clause js) (map placed_clause ks) e in
    let t = same-tail (placed_clause j) (placed_clause k) (map placed_clause js) (map placed_clause ks) e in
    let r = live-filter gone ks js t (λ x i. a x (inr i)) (λ x i. b x (inr i)) in
    let d : j.header.deleted ≡ gone k.place = a j (inl refl) ∙ ap (λ (x : PlacedClause). gone x.place) h in
    ap (λ o. map placed_clause (cond o (live_of js) (j ∷ live_of js))) d ∙ go (gone k.place) k.header.deleted (b k (inl refl)) h r
    ∙ sym (ap (map placed_clause) (split k.header.deleted))
  where
    split : (o : Bool) → filter (λ x. not (gone x.place)) (cond o (live_of ks) (k ∷ live_of ks)) ≡ cond o
        (filter (λ x. not (gone x.place)) (live_of ks))
        (cond (not (gone k.place)) (k ∷ (filter (λ x. not (gone x.place)) (live_of ks))) (filter (λ x. not (gone x.place)) (live_of ks)))
    split true = refl
    split false = refl

    go : (g o : Bool) → (o ≡ true → g ≡ true) → placed_clause j ≡ placed_clause k →
        map placed_clause (live_of js) ≡ map placed_clause (filter (λ x. not (gone x.place)) (live_of ks)) →
        map placed_clause (cond g (live_of js) (j ∷ live_of js)) ≡ map placed_clause
        (cond o (filter (λ x. not (gone x.place)) (live_of ks))
        (cond (not g) (k ∷ (filter (λ x. not (gone x.place)) (live_of ks))) (filter (λ x. not (gone x.place)) (live_of ks))))
    go true true f h r = r
    go true false f h r = r
    go false true f h r = absurd (let z : false ≡ true = f refl in cc)
    go false false f h r = ap₂ (λ (x : PlacedClause) xs. x ∷ xs) h r
