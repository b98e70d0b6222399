-- Clauses that are marked one after another.
use Rattle.std.proofs.Common.{◌≡◌, ◌≢◌, ℕ, ◌+◌, ◌<◌, ◌≤◌, List, [], ◌∷◌, ◌++◌, length, map, take, take_all, get_or, set, Bool, true, false, not, cond, nat_eq, refl, sym, ap, ◌∙◌, subst, ◌⊎◌, inl, inr, ⊎_elim, arith, length-set}
use Rattle.std.specs.Prelude.{◌&&◌}
use Rattle.std.proofs.lemmas.List.{take_more_set, get_or-set_other}
use Rattle.std.proofs.lemmas.Bool.{cases_Bool, and_from, eq-eqb}
use Rattle.varisat_theory.specs.promises.Membership.{◌∈◌, IsDistinct}
use Rattle.varisat_theory.proofs.clauses.Members.{equal_or_not, ∈-or_not, ∈-append_left, ∈-append_right, ∈-append_cases}
use Rattle.varisat_theory.proofs.clauses.Places.{∈-get_or, ∈-take_more}
use Rattle.varisat_clause.specs.declared.header.Tier.{Tier}
use Rattle.varisat_clause.specs.Tiers.{is_tier}
use Rattle.varisat_clause.specs.Stored.{StoredClause, IsClauseRef, AreRising, stored_at, with_stored}
use Rattle.varisat_clause.specs.Stores.{Store, stored_clauses, IsSound, HoldsClauses}
use Rattle.varisat_clause.specs.Databases.{Database, count_of, tier_list, with_tier_list, is_live, is_live_in, total, size_of, live_count, garbage_of, Tracks}
use Rattle.varisat_clause.specs.Reductions.{is_unmarked_in, AreUnmarkedIn, marked_as, with_mark, CanMarkTier, MarksTier}
use Rattle.varisat_clause.proofs.StoredClauses.{stored-here, stored-later, clause-here, clause-later, place-later, stored-∈, stored-found, is-other}
use Rattle.varisat_clause.proofs.StoreSound.{are-rising}
use Rattle.varisat_clause.proofs.DatabaseTracks.{tier-self, same-tier, list-with, place-is}
use Rattle.varisat_clause.proofs.MappedClauses.{mapped-known}

-- two changes of the clauses that agree but for one place
map-same : (f h : StoredClause → StoredClause) (ks : List StoredClause) → ((k : StoredClause) → k ∈ ks → f k ≡ h k) → map f ks ≡ map h ks
map-same f h [] e = refl
map-same f h (k ∷ ks) e = ap (λ x. x ∷ map f ks) (e k (inl refl)) ∙ ap (λ xs. h k ∷ xs) (map-same f h ks (λ j i. e j (inr i)))

stored-map : (f : StoredClause → StoredClause) → ((k : StoredClause) → (f k).place ≡ k.place) → (ks : List StoredClause) (p : ℕ) → IsClauseRef ks p →
    stored_at (map f ks) p ≡ f (stored_at ks p)
stored-map f s [] p (k, h, e) = absurd h
stored-map f s (k ∷ ks) p h =
    ⊎_elim
    (λ e. stored-here (f k) (map f ks) p (s k ∙ e) ∙ sym (ap f (stored-here k ks p e)))
    (λ n. stored-later (f k) (map f ks) p (λ e. n (sym (s k) ∙ e)) ∙ stored-map f s ks p (place-later k ks p h n) ∙ sym (ap f (stored-later k ks p n)))
    (equal_or_not k.place p)

map-at : (f h : StoredClause → StoredClause) → ((k : StoredClause) → (f k).place ≡ k.place) → (p : ℕ) →
    ((k : StoredClause) → k.place ≢ p → f k ≡ h k) → (ks : List StoredClause) → AreRising ks → IsClauseRef ks p →
    with_stored (map f ks) p (h (stored_at ks p)) ≡ map h ks
map-at f h s p o [] r (k, i, e) = absurd i
map-at f h s p o (k ∷ ks) r at =
    ⊎_elim
    (λ e. clause-here (f k) (map f ks) p _ (s k ∙ e) ∙ ap (λ x. h x ∷ map f ks) (stored-here k ks p e)
    ∙ ap (λ xs. h k ∷ xs) (map-same f h ks (λ j i. o j (λ q. let l = r.0 j i in absurd (omega (arith, l, e, q))))))
    (λ n. clause-later (f k) (map f ks) p _ (λ e. n (sym (s k) ∙ e)) ∙ ap (λ x. x ∷ with_stored (map f ks) p (h (stored_at (k ∷ ks) p))) (o k n)
    ∙ ap (λ x. h k ∷ with_stored (map f ks) p (h x)) (stored-later k ks p n) ∙ ap (λ xs. h k ∷ xs) (map-at f h s p o ks r.1 (place-later k ks p at n)))
    (equal_or_not k.place p)

-- The clauses of the kept places are marked, and they are those among the seen ones.
pub record IsMarking (t : Tier) (s u : Store) (seen kept : List ℕ) : Type 0 where
  pub change : StoredClause → StoredClause
  pub places : (k : StoredClause) → (change k).place ≡ k.place
  pub marks : (k : StoredClause) → k.place ∈ kept → change k ≡ marked_as true k
  pub leaves : (k : StoredClause) → (k.place ∈ kept → ⊥) → change k ≡ k
  pub is : HoldsClauses u (length s.words) (map change (stored_clauses s))
  pub live : (p : ℕ) → p ∈ kept → is_live_in t (stored_at (stored_clauses s) p) ≡ true
  pub known : (p : ℕ) → p ∈ kept → IsClauseRef (stored_clauses s) p
  pub complete : (p : ℕ) → p ∈ seen → is_live_in t (stored_at (stored_clauses s) p) ≡ true → p ∈ kept
  pub distinct : IsDistinct kept

map-id : (ks : List StoredClause) → map (λ k. k) ks ≡ ks
map-id [] = refl
map-id (k ∷ ks) = ap (λ xs. k ∷ xs) (map-id ks)

pub marking-none : (t : Tier) (s : Store) → IsSound s → IsMarking t s s [] []
marking-none t s ok = record {
  change = λ k. k;
  places = λ k. refl;
  marks = λ k h. absurd h;
  leaves = λ k h. refl;
  is = record { sound = ok; words = refl; clauses = sym (map-id (stored_clauses s)) };
  live = λ p h. absurd h;
  known = λ p h. absurd h;
  complete = λ p h e. absurd h;
  distinct = tt;
}

both-true : (a b : Bool) → (a && not b) ≡ true → (a ≡ true) × (b ≡ false)
both-true true false e = (refl, refl)
both-true true true e = absurd (cc)
both-true false b e = absurd (cc)

not-both : (a b : Bool) → a ≡ true → b ≡ false → (a && not b) ≡ true
not-both true false e f = refl
not-both true true e f = absurd (cc)
not-both false b e f = absurd (cc)

pub distinct-more : (xs : List ℕ) (x : ℕ) → IsDistinct xs → (x ∈ xs → ⊥) → IsDistinct (xs ++ x ∷ [])
distinct-more [] x d n = ((λ h. h), tt)
distinct-more (y ∷ xs) x d n = (
  (λ h. ⊎_elim d.0 (λ i. ⊎_elim (λ e. n (inl (sym e))) (λ z. z) i) (∈-append_cases y xs (x ∷ []) h)),
  distinct-more xs
      x d.1 (λ h. n (inr h)),
)

module _ (t : Tier) (s u : Store) (seen kept next : List ℕ) (p : ℕ) (m : IsMarking t s u seen kept) (ok : IsSound s)
    (free : AreUnmarkedIn t (stored_clauses s)) (at : IsClauseRef (stored_clauses s) p) (more : (q : ℕ) → q ∈ next → (q ∈ seen) ⊎ (q ≡ p)) where
  -- the clause as it is now
  now-is : stored_at (stored_clauses u) p ≡ m.change (stored_at (stored_clauses s) p)
  now-is = ap (λ xs. stored_at xs p) m.is.clauses ∙ stored-map m.change m.places (stored_clauses s) p at

  old-place : (stored_at (stored_clauses s) p).place ≡ p
  old-place = place-is (stored_clauses s) p at

  now-kept : p ∈ kept → stored_at (stored_clauses u) p ≡ marked_as true (stored_at (stored_clauses s) p)
  now-kept h = now-is ∙ m.marks (stored_at (stored_clauses s) p) (subst (λ (x : ℕ). x ∈ kept) (sym old-place) h)

  now-other : (p ∈ kept → ⊥) → stored_at (stored_clauses u) p ≡ stored_at (stored_clauses s) p
  now-other n = now-is ∙ m.leaves (stored_at (stored_clauses s) p) (λ h. n (subst (λ (x : ℕ). x ∈ kept) old-place h))

  -- it is not to be marked
  pub marking-same : is_unmarked_in t (stored_at (stored_clauses u) p) ≡ false → IsMarking t s u next kept
  marking-same e = record {
    change = m.change;
    places = m.places;
    marks = m.marks;
    leaves = m.leaves;
    is = m.is;
    live = m.live;
    known = m.known;
    complete = λ q h l. ⊎_elim
        (λ i. m.complete q i l)
        (λ f. subst (λ (x : ℕ). x ∈ kept) (sym f) (⊎_elim
        (λ i. i)
        (λ n.
        let k : StoredClause = stored_at (stored_clauses s) p in
        let a : is_live_in t k ≡ true = subst (λ (x : ℕ). is_live_in t (stored_at (stored_clauses s) x) ≡ true) f l in
        let b : is_unmarked_in t k ≡ true = not-both (is_live_in t k) k.header.mark a (free k (stored-∈ (stored_clauses s) p at) a) in
        let c : is_unmarked_in t k ≡ false = sym (ap (is_unmarked_in t) (now-other n)) ∙ e in
        absurd (let x : true ≡ false = sym b ∙ c in cc))
        (∈-or_not p kept)))
        (more q h);
    distinct = m.distinct;
  }

  -- it is marked
  pub marking-more : (v : Store) → is_unmarked_in t (stored_at (stored_clauses u) p) ≡ true →
      HoldsClauses v (length u.words) (with_mark true (stored_clauses u) p) → IsMarking t s v next (kept ++ p ∷ [])
  marking-more v e o =
      let k : StoredClause = stored_at (stored_clauses s) p in
      let j : StoredClause = stored_at (stored_clauses u) p in
      let b = both-true (is_live_in t j) j.header.mark e in
      let n : p ∈ kept → ⊥ = λ h. let x : j.header.mark ≡ true = ap (λ (x : StoredClause). x.header.mark) (now-kept h) in let y = b.1 in
      absurd (let z : true ≡ false = sym x ∙ y in cc) in
      let same : j ≡ k = now-other n in
      let f : StoredClause → StoredClause = λ (x : StoredClause). cond (nat_eq x.place p) (marked_as true x) (m.change x) in
      let here : (x : StoredClause) → x.place ≡ p → f x ≡ marked_as true x = λ x h. ap (λ c. cond c (marked_as true x) (m.change x)) (eq-eqb x.place p h) in
      let there : (x : StoredClause) → x.place ≢ p → f x ≡ m.change x = λ x h. ap (λ c. cond c (marked_as true x) (m.change x)) (is-other x.place p h) in
      record {
        change = f;
        places = λ x. ⊎_elim (λ h. ap (λ (y : StoredClause). y.place) (here x h)) (λ h. ap (λ (y : StoredClause). y.place) (there x h) ∙ m.places x)
            (equal_or_not x.place p);
        marks = λ x h. ⊎_elim (here x) (λ d. there x d
            ∙ m.marks x (⊎_elim (λ i. i) (λ i. ⊎_elim (λ q. absurd (d q)) (λ z. absurd z) i) (∈-append_cases x.place kept (p ∷ []) h)))
            (equal_or_not x.place p);
        leaves = λ x h. there x (λ q. h (∈-append_right x.place kept (p ∷ []) (inl q))) ∙ m.leaves x (λ i. h (∈-append_left x.place kept (p ∷ []) i));
        is = record {
          sound = o.sound;
          words = o.words ∙ m.is.words;
          clauses = o.clauses ∙ ap (λ (x : StoredClause). with_stored (stored_clauses u) p (marked_as true x)) same
              ∙ ap (λ xs. with_stored xs p (marked_as true k)) m.is.clauses
              ∙ ap (with_stored (map m.change (stored_clauses s)) p) (sym (here k old-place))
              ∙ map-at m.change f m.places p (λ x h. sym (there x h)) (stored_clauses s) (are-rising s ok) at;
        };
        live = λ q h. ⊎_elim (m.live q)
            (λ i. ⊎_elim (λ g. ap (λ (x : ℕ). is_live_in t (stored_at (stored_clauses s) x)) g ∙ sym (ap (is_live_in t) same) ∙ b.0)
            (λ z. absurd z) i) (∈-append_cases q kept (p ∷ []) h);
        known = λ q h. ⊎_elim (m.known q) (λ i. ⊎_elim (λ g. subst (IsClauseRef (stored_clauses s)) (sym g) at) (λ z. absurd z) i)
            (∈-append_cases q kept (p ∷ []) h);
        complete = λ q h l. ⊎_elim (λ i. ∈-append_left q kept (p ∷ []) (m.complete q i l)) (λ g. ∈-append_right q kept (p ∷ []) (inl g)) (more q h);
        distinct = distinct-more kept p m.distinct n;
      }

pub marking-done : (t : Tier) (s u : Store) (ps kept : List ℕ) → CanMarkTier t s ps → IsMarking t s u ps kept → MarksTier t s u kept
marking-done t s u ps kept c m =
    let complete : (k : StoredClause) → k ∈ stored_clauses s → is_live_in t k ≡ true → k.place ∈ kept =
    λ k h e. m.complete k.place (c.complete k h e) (ap (is_live_in t) (stored-found (stored_clauses s) (are-rising s c.sound) k h) ∙ e) in
    let same : (k : StoredClause) → k ∈ stored_clauses s → m.change k ≡ cond (is_live_in t k) (marked_as true k) k =
    λ k h. ⊎_elim
    (λ e. m.marks k (complete k h e) ∙ sym (ap (λ b. cond b (marked_as true k) k) e))
    (λ e. m.leaves k (λ i. let x : is_live_in t k ≡ true = sym (ap (is_live_in t) (stored-found (stored_clauses s) (are-rising s c.sound) k h))
    ∙ m.live k.place i in absurd (let z : true ≡ false = sym x ∙ e in cc)) ∙ sym (ap (λ b. cond b (marked_as true k) k) e))
    (cases_Bool (is_live_in t k)) in
    record {
      listed = record { known = m.known; live = m.live; complete = complete; distinct = m.distinct };
      marked = record {
        sound = m.is.sound;
        words = m.is.words;
        clauses = m.is.clauses
            ∙ map-same m.change (λ k. cond (is_live_in t k) (marked_as true k) k) (stored_clauses s) same;
      };
    }

-- how far the loop over the list has come: `count` places of the first i are kept
pub record IsMarkingList (t : Tier) (s u : Store) (old new : List ℕ) (i count : ℕ) : Type 0 where
  pub few : count ≤ i
  pub len : length new ≡ length old
  pub rest : (k : ℕ) → i ≤ k → get_or new k 0 ≡ get_or old k 0
  pub state : IsMarking t s u (take i old) (take count new)

pub marking-list-none : (t : Tier) (s : Store) (ps : List ℕ) → IsSound s → IsMarkingList t s s ps ps 0 0
marking-list-none t s ps ok = record { few = omega arith; len = refl; rest = λ k h. refl; state = marking-none t s ok }

module _ (t : Tier) (s u : Store) (old new : List ℕ) (i count p : ℕ) (c : CanMarkTier t s old) (m : IsMarkingList t s u old new i count)
    (h : i < length old) (e : p ≡ get_or new i 0) where
  next-is : p ≡ get_or old i 0
  next-is = e ∙ m.rest i (omega arith)

  next-place : IsClauseRef (stored_clauses s) p
  next-place = c.known p (subst (λ (x : ℕ). x ∈ old) (sym next-is) (∈-get_or old i 0 h))

  next-seen : (q : ℕ) → q ∈ take (i + 1) old → (q ∈ take i old) ⊎ (q ≡ p)
  next-seen q k = ⊎_elim inl (λ f. inr (f ∙ sym next-is)) (∈-take_more q old i 0 k)

  pub marking-place : IsClauseRef (stored_clauses u) p
  marking-place = subst (λ xs. IsClauseRef xs p) (sym m.state.is.clauses) (mapped-known m.state.change (stored_clauses s) p m.state.places next-place)

  pub marking-list-same : (v : Store) → v ≡ u → is_unmarked_in t (stored_at (stored_clauses u) p) ≡ false → IsMarkingList t s v old new (i + 1) count
  marking-list-same v q f = record {
    few = let l = m.few in omega (arith, l);
    len = m.len;
    rest = λ k l. m.rest k (omega (arith, l));
    state = subst (λ (x : Store). IsMarking t s x (take (i + 1) old) (take count new)) (sym q)
        (marking-same t s u (take i old) (take count new) (take (i + 1) old) p m.state c.sound c.unmarked next-place next-seen f);
  }

  pub marking-list-more : (v : Store) → is_unmarked_in t (stored_at (stored_clauses u) p) ≡ true →
      HoldsClauses v (length u.words) (with_mark true (stored_clauses u) p) → IsMarkingList t s v old (set new count p) (i + 1) (count + 1)
  marking-list-more v f o = record {
    few = let l = m.few in omega (arith, l);
    len = simp length-set m.len;
    rest = λ k l. let x = m.few in get_or-set_other new count k p 0 (λ (g : k ≡ count). absurd (omega (arith, g, l, x))) ∙ m.rest k (omega (arith, l));
    state = subst (λ (xs : List ℕ). IsMarking t s v (take (i + 1) old) xs)
        (sym (take_more_set new count p (let l = m.few in let n = m.len in omega (arith, l, n, h))))
        (marking-more t s u (take i old) (take count new) (take (i + 1) old) p m.state c.sound c.unmarked next-place next-seen v f o);
  }

pub marking-list-done : (t : Tier) (s u : Store) (old new : List ℕ) (i count : ℕ) → CanMarkTier t s old → length old ≤ i →
    IsMarkingList t s u old new i count → MarksTier t s u (take count new)
marking-list-done t s u old new i count c h m =
    marking-done t s u old (take count new) c (subst (λ (xs : List ℕ). IsMarking t s u xs (take count new)) (take_all i old h) m.state)

-- an element of the changed clauses
pub from-map : (f : StoredClause → StoredClause) (ks : List StoredClause) (j : StoredClause) → j ∈ map f ks → (k : StoredClause) × (k ∈ ks) × (j ≡ f k)
from-map f [] j h = absurd h
from-map f (k ∷ ks) j (inl e) = (k, inl refl, e)
from-map f (k ∷ ks) j (inr h) = let (x, i, e) = from-map f ks j h in (x, inr i, e)

-- no clause is marked
pub without-marks : (s n : Store) (t : Tier) → HoldsClauses n (length s.words) (map (marked_as false) (stored_clauses s)) → AreUnmarkedIn t (stored_clauses n)
without-marks s n t o k h e = let (x, i, q) = from-map (marked_as false) (stored_clauses s) k (subst (λ xs. k ∈ xs) o.clauses h) in
    ap (λ (y : StoredClause). y.header.mark) q

-- the database with another list for the tier
total-map : (w : StoredClause → ℕ) (f : StoredClause → StoredClause) (ks : List StoredClause) → ((k : StoredClause) → w (f k) ≡ w k) →
    total w (map f ks) ≡ total w ks
total-map w f [] e = refl
total-map w f (k ∷ ks) e = let a = e k in let b = total-map w f ks e in omega (arith, a, b)

mark-or-not : (b : Bool) (k : StoredClause) → (cond b (marked_as true k) k).place ≡ k.place
    × (cond b (marked_as true k) k).header.tier ≡ k.header.tier × (cond b (marked_as true k) k).header.deleted ≡ k.header.deleted
    × (cond b (marked_as true k) k).literals ≡ k.literals
mark-or-not true k = (refl, refl, refl, refl)
mark-or-not false k = (refl, refl, refl, refl)

list-put : (t : Tier) (xs ys : List ℕ) (d e : Database) → e ≡ record d { lists = with_tier_list t xs (with_tier_list t ys d.lists) } → (u : Tier) →
    tier_list u e.lists ≡ cond (is_tier u t) xs (tier_list u d.lists)
list-put t xs ys d e q u = ap (λ (x : Database). tier_list u x.lists) q ∙ list-with t u xs (with_tier_list t ys d.lists) ∙ go (is_tier u t) refl
  where
    go : (b : Bool) → is_tier u t ≡ b → cond b xs (tier_list u (with_tier_list t ys d.lists)) ≡ cond b xs (tier_list u d.lists)
    go true f = refl
    go false f = list-with t u ys d.lists ∙ ap (λ b. cond b ys (tier_list u d.lists)) f

pub tracks-marked : (t : Tier) (d e : Database) (s n : Store) (ps : List ℕ) → Tracks d s → MarksTier t s n ps → e.counts ≡ d.counts →
    e.garbage ≡ d.garbage → ((u : Tier) → tier_list u e.lists ≡ cond (is_tier u t) ps (tier_list u d.lists)) → Tracks e n
tracks-marked t d e s n ps k m ec eg el =
    let f : StoredClause → StoredClause = λ x. cond (is_live_in t x) (marked_as true x) x in
    let same = λ (x : StoredClause). mark-or-not (is_live_in t x) x in
    record {
      sound = m.marked.sound;
      counts = λ u.
          let a = total-map (λ x. cond (is_live_in u x) 1 0) f (stored_clauses s)
          (λ x. let (p, q, r, l) = same x in ap {B = ℕ} (λ b. cond b 1 0)
          (ap (λ b. not b && is_tier u (f x).header.tier) r ∙ ap (λ (y : Tier). not x.header.deleted && is_tier u y) q)) in
          let b = ap (live_count u) m.marked.clauses in
          let c = ap (count_of u) ec in
          omega (arith, a, b, c, k.counts u);
      garbage =
          let a = total-map (λ x. cond x.header.deleted (size_of x) 0) f (stored_clauses s)
          (λ x. let (p, q, r, l) = same x in ap (λ b. cond b (size_of (f x)) 0) r ∙ ap (λ (c : List ℕ). cond x.header.deleted (3 + length c) 0) l) in
          let b = ap garbage_of m.marked.clauses in
          omega (arith, a, b, eg, k.garbage);
      listed = λ j h live.
          let (x, i, q) = from-map f (stored_clauses s) j (subst (λ xs. j ∈ xs) m.marked.clauses h) in
          let (xp, xt, xd, xl) = same x in
          let p : x.place ≡ j.place = sym (ap (λ (y : StoredClause). y.place) q ∙ xp) in
          let tier : x.header.tier ≡ j.header.tier = sym (ap (λ (y : StoredClause). y.header.tier) q ∙ xt) in
          let alive : is_live x ≡ true = ap not (sym (ap (λ (y : StoredClause). y.header.deleted) q ∙ xd)) ∙ live in
          ⊎_elim
          (λ g.
          let u : is_tier t x.header.tier ≡ true = subst (λ (y : Tier). is_tier y x.header.tier ≡ true) (tier ∙ same-tier j.header.tier t g)
          (tier-self x.header.tier) in
          let o : x.place ∈ ps = m.listed.complete x i (and_from (is_live x) (is_tier t x.header.tier) alive u) in
          subst (λ (xs : List ℕ). j.place ∈ xs) (sym (el j.header.tier ∙ ap (λ b. cond b ps (tier_list j.header.tier d.lists)) g))
          (subst (λ (y : ℕ). y ∈ ps) p o))
          (λ g.
          subst (λ (xs : List ℕ). j.place ∈ xs) (sym (el j.header.tier ∙ ap (λ b. cond b ps (tier_list j.header.tier d.lists)) g))
          (subst (λ (y : Tier). j.place ∈ tier_list y d.lists) tier (subst (λ (y : ℕ). y ∈ tier_list x.header.tier d.lists) p (k.listed x i alive))))
          (cases_Bool (is_tier j.header.tier t));
      known = λ u p h.
          let old : IsClauseRef (stored_clauses s) p = ⊎_elim
          (λ g. m.listed.known p (subst (λ (xs : List ℕ). p ∈ xs) (el u ∙ ap (λ b. cond b ps (tier_list u d.lists)) g) h))
          (λ g. k.known u p (subst (λ (xs : List ℕ). p ∈ xs) (el u ∙ ap (λ b. cond b ps (tier_list u d.lists)) g) h))
          (cases_Bool (is_tier u t)) in
          subst (λ xs. IsClauseRef xs p) (sym m.marked.clauses) (mapped-known f (stored_clauses s) p (λ x. (same x).0) old);
    }

pub tracks-unmarked : (d : Database) (s n : Store) → Tracks d s → HoldsClauses n (length s.words) (map (marked_as false) (stored_clauses s)) → Tracks d n
tracks-unmarked d s n k o = record {
  sound = o.sound;
  counts = λ u. let a = total-map (λ x. cond (is_live_in u x) 1 0) (marked_as false) (stored_clauses s) (λ x. refl) in
      let b = ap (live_count u) o.clauses in omega (arith, a, b, k.counts u);
  garbage = let a = total-map (λ x. cond x.header.deleted (size_of x) 0) (marked_as false) (stored_clauses s) (λ x. refl) in
      let b = ap garbage_of o.clauses in omega (arith, a, b, k.garbage);
  listed = λ j h live.
      let (x, i, q) = from-map (marked_as false) (stored_clauses s) j (subst (λ xs. j ∈ xs) o.clauses h) in
      subst (λ (y : StoredClause). y.place ∈ tier_list y.header.tier d.lists) (sym q) (k.listed x i (sym (ap is_live q) ∙ live));
  known = λ u p h. subst (λ xs. IsClauseRef xs p) (sym o.clauses) (mapped-known (marked_as false) (stored_clauses s) p (λ x. refl) (k.known u p h));
}

-- the list that a database has for a tier may be brought up to date
pub can-mark : (t : Tier) (d : Database) (s : Store) → Tracks d s → AreUnmarkedIn t (stored_clauses s) → CanMarkTier t s (tier_list t d.lists)
can-mark t d s k free = record {
  sound = k.sound;
  known = k.known t;
  complete = λ j i e.
      let b = split (is_live j) (is_tier t j.header.tier) e in
      subst (λ (u : Tier). j.place ∈ tier_list u d.lists) (sym (same-tier t j.header.tier b.1)) (k.listed j i b.0);
  unmarked = free;
}
  where
    split : (a b : Bool) → (a && b) ≡ true → (a ≡ true) × (b ≡ true)
    split true true e = (refl, refl)
    split true false e = absurd (cc)
    split false b e = absurd (cc)

-- the list was put in place of another one
pub tracks-listed : (t : Tier) (d c e : Database) (s n : Store) (xs ys : List ℕ) → Tracks d s → MarksTier t s n xs →
    c ≡ record d { lists = with_tier_list t ys d.lists } → e ≡ record c { lists = with_tier_list t xs c.lists } → Tracks e n
tracks-listed t d c e s n xs ys k m ec ee =
    let q : e ≡ record d { lists = with_tier_list t xs (with_tier_list t ys d.lists) } = ee
    ∙ ap (λ (x : Database). record x { lists = with_tier_list t xs x.lists }) ec in
    tracks-marked t d e s n xs k m (ap (λ (x : Database). x.counts) q) (ap (λ (x : Database). x.garbage) q) (list-put t xs ys d e q)
