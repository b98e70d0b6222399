-- The places of the clauses of a tier, in order and by rank.
use Rattle.std.proofs.Common.{◌≡◌, ◌≢◌, ℕ, zero, suc, ◌+◌, ◌*◌, ◌<◌, ◌≤◌, ◌^◌, List, [], ◌∷◌, ◌++◌, length, take, take_all, get_or, true, false, cond, nat_eq, refl, sym, ap, ◌∙◌, subst, ◌⊎◌, inl, inr, ⊎_elim, arith}
use Rattle.std.specs.List.{sum_by}
use Rattle.std.specs.List.Sorted.{IsPermutation, IsNonDecreasingBy}
use Rattle.std.proofs.lemmas.List.Sums.{sum_by-cons}
use Rattle.std.proofs.lemmas.List.Sorted.{Contains-permutation, IsPermutation-sym, sum_by-IsPermutation}
use Rattle.std.proofs.lemmas.Bool.{cases_Bool, eq-eqb}
use Rattle.varisat_theory.specs.promises.Membership.{◌∈◌, IsDistinct}
use Rattle.varisat_theory.proofs.clauses.Members.{equal_or_not}
use Rattle.varisat_theory.proofs.clauses.Places.{∈-contains, contains-∈, place_in}
use Rattle.varisat_clause.specs.declared.header.Tier.{Tier}
use Rattle.varisat_clause.specs.Stored.{StoredClause, IsClauseRef, AreRising, no_clause, stored_at}
use Rattle.varisat_clause.specs.Stores.{Store, stored_clauses, IsSound}
use Rattle.varisat_clause.specs.Databases.{is_live_in}
use Rattle.varisat_clause.specs.Reductions.{rank_in, places_in, ListsTier, AreRanked}
use Rattle.varisat_clause.proofs.StoredClauses.{stored-here, stored-later, is-other}
use Rattle.varisat_clause.proofs.StoreWords.{found}
use Rattle.varisat_clause.proofs.StoreSound.{are-rising}
use Rattle.varisat_clause.proofs.DatabaseTracks.{place-is}
use Rattle.varisat_clause.proofs.CollectedClauses.{take-next, clause-of-index, length-places}

-- one more clause
pub places-more : (t : Tier) (ks : List StoredClause) (k : StoredClause) → is_live_in t k ≡ true → places_in t (ks ++ k ∷ []) ≡ places_in t ks ++ k.place ∷ []
places-more t [] k e = ap (λ b. cond b (k.place ∷ []) []) e
places-more t (j ∷ ks) k e =
    ⊎_elim
    (λ d. ap (λ b. cond b (j.place ∷ places_in t (ks ++ k ∷ [])) (places_in t (ks ++ k ∷ []))) d ∙ ap (λ xs. j.place ∷ xs) (places-more t ks k e)
    ∙ sym (ap (λ b. cond b (j.place ∷ places_in t ks) (places_in t ks) ++ k.place ∷ []) d))
    (λ d. ap (λ b. cond b (j.place ∷ places_in t (ks ++ k ∷ [])) (places_in t (ks ++ k ∷ []))) d ∙ places-more t ks k e
    ∙ sym (ap (λ b. cond b (j.place ∷ places_in t ks) (places_in t ks) ++ k.place ∷ []) d))
    (cases_Bool (is_live_in t j))

pub places-same : (t : Tier) (ks : List StoredClause) (k : StoredClause) → is_live_in t k ≡ false → places_in t (ks ++ k ∷ []) ≡ places_in t ks
places-same t [] k e = ap (λ b. cond b (k.place ∷ []) []) e
places-same t (j ∷ ks) k e =
    ⊎_elim
    (λ d. ap (λ b. cond b (j.place ∷ places_in t (ks ++ k ∷ [])) (places_in t (ks ++ k ∷ []))) d ∙ ap (λ xs. j.place ∷ xs) (places-same t ks k e)
    ∙ sym (ap (λ b. cond b (j.place ∷ places_in t ks) (places_in t ks)) d))
    (λ d. ap (λ b. cond b (j.place ∷ places_in t (ks ++ k ∷ [])) (places_in t (ks ++ k ∷ []))) d ∙ places-same t ks k e
    ∙ sym (ap (λ b. cond b (j.place ∷ places_in t ks) (places_in t ks)) d))
    (cases_Bool (is_live_in t j))

-- an element is the first one or a later one
place-cases : (t : Tier) (k : StoredClause) (ks : List StoredClause) (p : ℕ) → p ∈ places_in t (k ∷ ks) → ((p ≡ k.place) × (is_live_in t k ≡ true))
    ⊎ (p ∈ places_in t ks)
place-cases t k ks p h =
    ⊎_elim
    (λ d. ⊎_elim (λ e. inl (e, d)) inr (subst (λ (xs : List ℕ). p ∈ xs) (ap (λ b. cond b (k.place ∷ places_in t ks) (places_in t ks)) d) h))
    (λ d. inr (subst (λ (xs : List ℕ). p ∈ xs) (ap (λ b. cond b (k.place ∷ places_in t ks) (places_in t ks)) d) h))
    (cases_Bool (is_live_in t k))

pub tier-known : (t : Tier) (ks : List StoredClause) (p : ℕ) → p ∈ places_in t ks → IsClauseRef ks p
tier-known t [] p h = absurd h
tier-known t (k ∷ ks) p h =
    ⊎_elim
    (λ d. (k, inl refl, sym d.0))
    (λ i. let (j, m, e) = tier-known t ks p i in (j, inr m, e))
    (place-cases t k ks p h)

place-after : (k : StoredClause) (ks : List StoredClause) (p : ℕ) → AreRising (k ∷ ks) → IsClauseRef ks p → k.place < p
place-after k ks p r (j, m, e) = let l = r.0 j m in omega (arith, l, e)

tier-live : (t : Tier) (ks : List StoredClause) (p : ℕ) → AreRising ks → p ∈ places_in t ks → is_live_in t (stored_at ks p) ≡ true
tier-live t [] p r h = absurd h
tier-live t (k ∷ ks) p r h =
    ⊎_elim
    (λ d. ap (is_live_in t) (stored-here k ks p (sym d.0)) ∙ d.1)
    (λ i. let l = place-after k ks p r (tier-known t ks p i) in ap (is_live_in t) (stored-later k ks p (λ e. absurd (omega (arith, l, e))))
    ∙ tier-live t ks p r.1 i)
    (place-cases t k ks p h)

tier-complete : (t : Tier) (ks : List StoredClause) (k : StoredClause) → k ∈ ks → is_live_in t k ≡ true → k.place ∈ places_in t ks
tier-complete t [] k h e = absurd h
tier-complete t (j ∷ ks) k (inl q) e =
    let d : is_live_in t j ≡ true = ap (is_live_in t) (sym q) ∙ e in
    subst (λ (xs : List ℕ). k.place ∈ xs) (sym (ap (λ b. cond b (j.place ∷ places_in t ks) (places_in t ks)) d)) (inl (ap (λ (x : StoredClause). x.place) q))
tier-complete t (j ∷ ks) k (inr m) e =
    let i = tier-complete t ks k m e in
    ⊎_elim
    (λ d. subst (λ (xs : List ℕ). k.place ∈ xs) (sym (ap (λ b. cond b (j.place ∷ places_in t ks) (places_in t ks)) d)) (inr i))
    (λ d. subst (λ (xs : List ℕ). k.place ∈ xs) (sym (ap (λ b. cond b (j.place ∷ places_in t ks) (places_in t ks)) d)) i)
    (cases_Bool (is_live_in t j))

tier-distinct : (t : Tier) (ks : List StoredClause) → AreRising ks → IsDistinct (places_in t ks)
tier-distinct t [] r = tt
tier-distinct t (k ∷ ks) r =
    ⊎_elim
    (λ d. subst IsDistinct (sym (ap (λ b. cond b (k.place ∷ places_in t ks) (places_in t ks)) d))
    ((λ i. let l = place-after k ks k.place r (tier-known t ks k.place i) in absurd (omega (arith, l))), tier-distinct t ks r.1))
    (λ d. subst IsDistinct (sym (ap (λ b. cond b (k.place ∷ places_in t ks) (places_in t ks)) d)) (tier-distinct t ks r.1))
    (cases_Bool (is_live_in t k))

pub tier-listed : (t : Tier) (s : Store) → IsSound s → ListsTier t (stored_clauses s) (places_in t (stored_clauses s))
tier-listed t s ok = record {
  known = tier-known t (stored_clauses s);
  live = λ p h. tier-live t (stored_clauses s) p (are-rising s ok) h;
  complete = tier-complete t (stored_clauses s);
  distinct = tier-distinct t (stored_clauses s) (are-rising s ok);
}

-- how often a number stands in a list
abbrev pub occurs : ℕ → List ℕ → ℕ
occurs q xs = sum_by (λ x. cond (nat_eq x q) 1 0) xs

occurs-more : (q x : ℕ) (xs : List ℕ) → occurs q (x ∷ xs) ≡ cond (nat_eq x q) 1 0 + occurs q xs
occurs-more q x xs = sum_by-cons (λ y. cond (nat_eq y q) 1 0) x xs

absent : (q : ℕ) (xs : List ℕ) → (q ∈ xs → ⊥) → occurs q xs ≡ 0
absent q [] h = refl
absent q (x ∷ xs) h =
    let e = ap {B = ℕ} (λ b. cond b 1 0) (is-other x q (λ f. h (inl (sym f)))) in
    let r = absent q xs (λ i. h (inr i)) in let m = occurs-more q x xs in omega (arith, e, r, m)

present : (q : ℕ) (xs : List ℕ) → q ∈ xs → 1 ≤ occurs q xs
present q [] h = absurd h
present q (x ∷ xs) (inl f) = let e = ap {B = ℕ} (λ b. cond b 1 0) (eq-eqb x q (sym f)) in let m = occurs-more q x xs in omega (arith, e, m)
present q (x ∷ xs) (inr i) = let r = present q xs i in let m = occurs-more q x xs in omega (arith, r, m)

once : (xs : List ℕ) → IsDistinct xs → (q : ℕ) → occurs q xs ≤ 1
once [] h q = omega arith
once (x ∷ xs) h q =
    ⊎_elim
    (λ f. let e = ap {B = ℕ} (λ b. cond b 1 0) (eq-eqb x q f) in let a = absent q xs (λ i. h.0 (subst (λ (y : ℕ). y ∈ xs) (sym f) i)) in
    let m = occurs-more q x xs in omega (arith, e, a, m))
    (λ n. let e = ap {B = ℕ} (λ b. cond b 1 0) (is-other x q n) in let r = once xs h.1 q in let m = occurs-more q x xs in omega (arith, e, r, m))
    (equal_or_not x q)

distinct-once : (xs : List ℕ) → ((q : ℕ) → occurs q xs ≤ 1) → IsDistinct xs
distinct-once [] h = tt
distinct-once (x ∷ xs) h = (
  (λ i. let e = ap {B = ℕ} (λ b. cond b 1 0) (eq-eqb x x refl) in let p = present x xs i in let o = h x in let m = occurs-more x x xs in
      absurd (omega (arith, e, p, o, m))),
  distinct-once xs (λ q. let o = h q in let m = occurs-more q x xs in omega (arith, o, m)),
)

pub distinct-permutation : (xs ys : List ℕ) → IsPermutation xs ys → IsDistinct xs → IsDistinct ys
distinct-permutation xs ys m h =
    distinct-once ys (λ q. let a = once xs h q in let b = sum_by-IsPermutation (λ x. cond (nat_eq x q) 1 0) xs ys m in omega (arith, a, b))

pub ∈-permutation : (xs ys : List ℕ) (x : ℕ) → IsPermutation xs ys → x ∈ xs → x ∈ ys
∈-permutation xs ys x m h = ∈-contains x ys (Contains-permutation xs ys x m (contains-∈ x xs h))

-- in another order
pub listed-permutation : (t : Tier) (ks : List StoredClause) (xs ys : List ℕ) → IsPermutation xs ys → ListsTier t ks xs → ListsTier t ks ys
listed-permutation t ks xs ys m l = record {
  known = λ p h. l.known p (∈-permutation ys xs p (IsPermutation-sym xs ys m) h);
  live = λ p h. l.live p (∈-permutation ys xs p (IsPermutation-sym xs ys m) h);
  complete = λ k h e. ∈-permutation xs ys k.place m (l.complete k h e);
  distinct = distinct-permutation xs ys m l.distinct;
}

-- ranks are in the order of activity and then of places
rank-order : (a b p q : ℕ) → p < 2 ^ 32 → q < 2 ^ 32 → a * 2 ^ 32 + p ≤ b * 2 ^ 32 + q → p ≢ q → (a < b) ⊎ ((a ≡ b) × (p < q))
rank-order a b p q hp hq h n =
    ⊎_elim
    (λ e. inr (e, ⊎_elim (λ f. absurd (n f)) (λ m. below p q (omega (arith, h, e)) n) (equal_or_not p q)))
    (λ m. inl (less a b p q hp hq h m))
    (equal_or_not a b)
  where
    below : (p q : ℕ) → p ≤ q → p ≢ q → p < q
    below p q h n = grind arith

    less : (a b p q : ℕ) → p < 2 ^ 32 → q < 2 ^ 32 → a * 2 ^ 32 + p ≤ b * 2 ^ 32 + q → (a ≡ b → ⊥) → a < b
    less a b p q hp hq h n = below a b (omega (arith, h, hp, hq)) n

pub ranked-places : (s : Store) (ps : List ℕ) → IsSound s → ((p : ℕ) → p ∈ ps → IsClauseRef (stored_clauses s) p) → IsDistinct ps →
    IsNonDecreasingBy (rank_in s.words) ps → AreRanked (stored_clauses s) ps
ranked-places s [] ok known d h = tt
ranked-places s (p ∷ ps) ok known d h = (
  (λ q i.
      let (j, l, e) = place_in q ps 0 i in
      let r : rank_in s.words p ≤ rank_in s.words (get_or ps j 0) = h zero (suc j) 0 (omega arith) (omega (arith, l)) in
      let r2 : rank_in s.words p ≤ rank_in s.words q = subst (λ (x : ℕ). rank_in s.words p ≤ rank_in s.words x) e r in
      let f = found s p ok (known p (inl refl)) in
      let g = found s q ok (known q (inr i)) in
      let ap1 = ap (λ (x : StoredClause). x.header.activity) f.is in
      let aq1 = ap (λ (x : StoredClause). x.header.activity) g.is in
      let o = rank-order (get_or s.words p 0) (get_or s.words q 0) p q (omega (arith, f.ends, ok.small)) (omega (arith, g.ends, ok.small)) r2
      (λ x. d.0 (subst (λ (y : ℕ). y ∈ ps) (sym x) i)) in
      ⊎_elim (λ a. inl (omega (arith, a, ap1, aq1))) (λ (a, b). inr (ap1 ∙ a ∙ sym aq1, b)) o),
  ranked-places s ps ok (λ q i. known q (inr i)) d.1 (λ i j y a b. h (suc i) (suc j) y (omega (arith, a)) (omega (arith, b))),
)

-- the places among the first clauses, and the next clause
take-place : (s : Store) (i p : ℕ) → i < length s.places → p ≡ get_or s.places i 0 →
    take (i + 1) (stored_clauses s) ≡ take i (stored_clauses s) ++ stored_at (stored_clauses s) p ∷ []
take-place s i p h e =
    let l = length-places s.words s.places in
    take-next (stored_clauses s) i no_clause (omega (arith, h, l)) ∙ ap (λ (x : StoredClause). take i (stored_clauses s) ++ x ∷ []) (clause-of-index s i p h e)

pub tier-more : (t : Tier) (s : Store) (i p : ℕ) (xs ys : List ℕ) → i < length s.places → p ≡ get_or s.places i 0 → IsClauseRef (stored_clauses s) p →
    xs ≡ places_in t (take i (stored_clauses s)) → is_live_in t (stored_at (stored_clauses s) p) ≡ true → ys ≡ xs ++ p ∷ [] →
    ys ≡ places_in t (take (i + 1) (stored_clauses s))
tier-more t s i p xs ys h e at q live r =
    r ∙ ap (λ (zs : List ℕ). zs ++ p ∷ []) q ∙ ap (λ (x : ℕ). places_in t (take i (stored_clauses s)) ++ x ∷ [])
    (sym (place-is (stored_clauses s) p at)) ∙ sym (places-more t (take i (stored_clauses s)) (stored_at (stored_clauses s) p) live)
    ∙ sym (ap (places_in t) (take-place s i p h e))

pub tier-same : (t : Tier) (s : Store) (i p : ℕ) (xs : List ℕ) → i < length s.places → p ≡ get_or s.places i 0 →
    xs ≡ places_in t (take i (stored_clauses s)) → is_live_in t (stored_at (stored_clauses s) p) ≡ false → xs ≡ places_in t (take (i + 1) (stored_clauses s))
tier-same t s i p xs h e q live =
    q ∙ sym (places-same t (take i (stored_clauses s)) (stored_at (stored_clauses s) p) live) ∙ sym (ap (places_in t) (take-place s i p h e))

pub tier-all : (t : Tier) (s : Store) (i : ℕ) (xs : List ℕ) → length s.places ≤ i → xs ≡ places_in t (take i (stored_clauses s)) →
    xs ≡ places_in t (stored_clauses s)
tier-all t s i xs h q = let l = length-places s.words s.places in q ∙ ap (places_in t) (take_all i (stored_clauses s) (omega (arith, h, l)))
