-- Clauses that a filter goes over, one after another.
use Rattle.std.proofs.Common.{◌≡◌, ℕ, suc, ◌+◌, ◌<◌, ◌≤◌, List, [], ◌∷◌, ◌++◌, length, get_or, Bool, true, false, refl, sym, ap, ◌∙◌, subst, inl, inr, ⊎_elim, arith}
use Rattle.varisat_theory.specs.promises.Membership.{◌∈◌}
use Rattle.varisat_theory.proofs.clauses.Members.{equal_or_not, ∈-append_right}
use Rattle.varisat_clause.specs.Stored.{StoredClause, IsClauseRef, AreRising, no_clause, stored_at, header_at, with_stored, with_header}
use Rattle.varisat_clause.specs.Stores.{Store, stored_clauses, IsSound, HoldsClauses}
use Rattle.varisat_clause.specs.Databases.{Database, is_live, Tracks}
use Rattle.varisat_clause.specs.Filters.{Alters, left_if, FiltersAt, FiltersOne, Filters, StopsWithin}
use Rattle.varisat_clause.specs.Filters.FiltersOne.{PassesOver, ComesTo}
use Rattle.varisat_clause.proofs.StoredClauses.{clause-here, clause-later, clause-same, clause-place, clause-twice}
use Rattle.varisat_clause.proofs.StoreSound.{are-rising, place-of}
use Rattle.varisat_clause.proofs.DatabaseTracks.{place-is, clause-self, tracks-changed, adjusts-kept}
use Rattle.varisat_clause.proofs.CollectedClauses.{length-places, clause-of-index}

-- as many clauses as before
with-length : (ks : List StoredClause) (p : ℕ) (j : StoredClause) → length (with_stored ks p j) ≡ length ks
with-length [] p j = refl
with-length (k ∷ ks) p j =
    ⊎_elim
    (λ e. ap length (clause-here k ks p j e))
    (λ n. ap length (clause-later k ks p j n) ∙ ap suc (with-length ks p j))
    (equal_or_not k.place p)

-- what stands at the place of a clause that was altered
module _ (d : Database) (s n : Store) (p : ℕ) (t : Tracks d s) (at : IsClauseRef (stored_clauses s) p)
    (live : (header_at (stored_clauses s) p).deleted ≡ false) (a : Alters s n p) where
  pub altered-stored : stored_at (stored_clauses n) p ≡ a.clause
  altered-stored = ap (λ xs. stored_at xs p) a.is.clauses ∙ clause-same (stored_clauses s) p a.clause at a.place

  pub altered-place : IsClauseRef (stored_clauses n) p
  altered-place = subst (λ xs. IsClauseRef xs p) (sym a.is.clauses) (clause-place (stored_clauses s) p p a.clause a.place at)

  pub altered-live : (header_at (stored_clauses n) p).deleted ≡ false
  altered-live = ap (λ (x : StoredClause). x.header.deleted) altered-stored ∙ a.live

  pub tracks-altered : Tracks d n
  tracks-altered =
      tracks-changed d d s n (length s.words) p a.clause t at a.place a.is
      (adjusts-kept d s p a.clause t at (place-is (stored_clauses s) p at) a.tier (a.live ∙ sym live) (λ e. absurd (let f = a.live in cc)))

-- a clause that a filter leaves as it is
pub alters-same : (s : Store) (p : ℕ) → IsSound s → IsClauseRef (stored_clauses s) p → (header_at (stored_clauses s) p).deleted ≡ false → Alters s s p
alters-same s p ok at live = record {
  clause = stored_at (stored_clauses s) p;
  place = place-is (stored_clauses s) p at;
  tier = refl;
  live = live;
  is = record { sound = ok; words = refl; clauses = sym (clause-self (stored_clauses s) p) };
}

live-same : (k : StoredClause) → k.header.deleted ≡ false → left_if true k ≡ k
live-same k e = sym (ap (λ (b : Bool). record k { header = record k.header { deleted = b } }) e)

-- the clause stays, or it is deleted
module _ {F : Type 0} (Leaves : F → StoredClause → StoredClause → F → Type 0) (f g : F) (d : Database) (s n : Store) (p : ℕ) (t : Tracks d s)
    (at : IsClauseRef (stored_clauses s) p) (live : (header_at (stored_clauses s) p).deleted ≡ false) (a : Alters s n p) where
  pub changes-kept : Leaves f (stored_at (stored_clauses s) p) (left_if true (stored_at (stored_clauses n) p)) g → FiltersAt Leaves f g s n p
  changes-kept r = record {
    clause = a.clause;
    place = a.place;
    tier = a.tier;
    left = subst (λ (x : StoredClause). Leaves f (stored_at (stored_clauses s) p) x g)
        (ap (left_if true) (altered-stored d s n p t at live a) ∙ live-same a.clause a.live) r;
    is = a.is;
  }

  pub changes-deleted : (u : Store) → Leaves f (stored_at (stored_clauses s) p) (left_if false (stored_at (stored_clauses n) p)) g →
      HoldsClauses u (length n.words) (with_header (stored_clauses n) p (record (header_at (stored_clauses n) p) { deleted = true })) →
      FiltersAt Leaves f g s u p
  changes-deleted u r o =
      let e = altered-stored d s n p t at live a in
      record {
        clause = left_if false a.clause;
        place = a.place;
        tier = a.tier;
        left = subst (λ (x : StoredClause). Leaves f (stored_at (stored_clauses s) p) x g) (ap (left_if false) e) r;
        is = record {
          sound = o.sound;
          words = o.words ∙ a.is.words;
          clauses = o.clauses ∙ ap (λ (x : StoredClause). with_stored (stored_clauses n) p (left_if false x)) e
              ∙ ap (λ xs. with_stored xs p (left_if false a.clause)) a.is.clauses ∙ clause-twice (stored_clauses s) p a.clause (left_if false a.clause) a.place;
        };
      }

-- one more clause
filters-more : {F : Type 0} (Leaves : F → StoredClause → StoredClause → F → Type 0) (f g h : F) (ks js : List StoredClause) (k j : StoredClause) →
    Filters Leaves f ks js g → FiltersOne Leaves g k j h → Filters Leaves f (ks ++ k ∷ []) (js ++ j ∷ []) h
filters-more Leaves f g h [] [] k j a p = (h, subst (λ x. FiltersOne Leaves x k j h) a p, refl)
filters-more Leaves f g h [] (x ∷ js) k j a p = absurd a
filters-more Leaves f g h (y ∷ ks) [] k j a p = absurd a
filters-more Leaves f g h (y ∷ ks) (x ∷ js) k j (m, q, a) p = (m, q, filters-more Leaves m g h ks js k j a p)

-- the clause behind the first ones
behind : (xs ys : List StoredClause) → length xs < length (xs ++ ys) → (k : StoredClause) × (zs : List StoredClause) × (ys ≡ k ∷ zs)
    × (get_or (xs ++ ys) (length xs) no_clause ≡ k)
behind [] [] h = absurd (omega (arith, h))
behind [] (y ∷ ys) h = (y, ys, refl, refl)
behind (x ∷ xs) ys h = behind xs ys (omega (arith, h))

nothing-behind : (xs ys : List StoredClause) → length (xs ++ ys) ≤ length xs → xs ++ ys ≡ xs
nothing-behind [] [] h = refl
nothing-behind [] (y ∷ ys) h = absurd (omega (arith, h))
nothing-behind (x ∷ xs) ys h = ap (λ zs. x ∷ zs) (nothing-behind xs ys (omega (arith, h)))

with-behind : (xs ys : List StoredClause) (k j : StoredClause) → AreRising (xs ++ k ∷ ys) → with_stored (xs ++ k ∷ ys) k.place j ≡ xs ++ j ∷ ys
with-behind [] ys k j r = clause-here k ys k.place j refl
with-behind (x ∷ xs) ys k j r =
    let l = r.0 k (∈-append_right k xs (k ∷ ys) (inl refl)) in
    clause-later x (xs ++ k ∷ ys) k.place j (λ e. absurd (omega (arith, l, e))) ∙ ap (λ zs. x ∷ zs) (with-behind xs ys k j r.1)

regrouped : (xs : List StoredClause) (x : StoredClause) (ys : List StoredClause) → xs ++ x ∷ ys ≡ (xs ++ x ∷ []) ++ ys
regrouped [] x ys = refl
regrouped (z ∷ xs) x ys = ap (λ zs. z ∷ zs) (regrouped xs x ys)

length-more : (xs : List StoredClause) (x : StoredClause) → length (xs ++ x ∷ []) ≡ length xs + 1
length-more [] x = refl
length-more (y ∷ xs) x = let r = length-more xs x in omega (arith, r)

filters-length : {F : Type 0} (Leaves : F → StoredClause → StoredClause → F → Type 0) (f g : F) (ks js : List StoredClause) →
    Filters Leaves f ks js g → length js ≡ length ks
filters-length Leaves f g [] [] a = refl
filters-length Leaves f g [] (x ∷ js) a = absurd a
filters-length Leaves f g (y ∷ ks) [] a = absurd a
filters-length Leaves f g (y ∷ ks) (x ∷ js) (m, q, a) = ap suc (filters-length Leaves m g ks js a)

-- how far a filter has come: it left the clauses `left` of the first ones, and has still to come to the rest
pub record IsFiltering {F : Type 0} (Leaves : F → StoredClause → StoredClause → F → Type 0) (Accepts : F → StoredClause → Type 0) (f g : F)
    (s t : Store) (d : Database) (i : ℕ) : Type 0 where
  pub first : List StoredClause
  pub rest : List StoredClause
  pub left : List StoredClause
  pub index : i ≡ length left
  pub old : stored_clauses s ≡ first ++ rest
  pub filtered : Filters Leaves f first left g
  pub new : stored_clauses t ≡ left ++ rest
  pub size : length t.words ≡ length s.words
  pub places : length t.places ≡ length s.places
  pub accepted : (k : StoredClause) → k ∈ rest → is_live k ≡ true → Accepts g k
  pub tracks : Tracks d t

pub filtering-none : {F : Type 0} (Leaves : F → StoredClause → StoredClause → F → Type 0) (Accepts : F → StoredClause → Type 0) (f : F) (s : Store)
    (d : Database) → Tracks d s → ((k : StoredClause) → k ∈ stored_clauses s → is_live k ≡ true → Accepts f k) → IsFiltering Leaves Accepts f f s s d 0
filtering-none Leaves Accepts f s d t a = record {
  first = [];
  rest = stored_clauses s;
  left = [];
  index = refl;
  old = refl;
  filtered = refl;
  new = refl;
  size = refl;
  places = refl;
  accepted = a;
  tracks = t;
}

module _ {F : Type 0} (Leaves : F → StoredClause → StoredClause → F → Type 0) (Accepts : F → StoredClause → Type 0) (f g : F) (s t : Store)
    (d : Database) (i p : ℕ) (m : IsFiltering Leaves Accepts f g s t d i) where
  pub filtering-stopped : StopsWithin Leaves f (stored_clauses s) (stored_clauses t)
  filtering-stopped = record { first = m.first; rest = m.rest; left = m.left; filter = g; old = m.old; filtered = m.filtered; new = m.new }

  pub filtering-done : length s.places ≤ i → Filters Leaves f (stored_clauses s) (stored_clauses t) g
  filtering-done h =
      let a = length-places s.words s.places in
      let b = length-places t.words t.places in
      let q = ap length m.old in
      let r = ap length m.new in
      let l = filters-length Leaves f g m.first m.left m.filtered in
      let x : stored_clauses s ≡ m.first = m.old ∙ nothing-behind m.first m.rest (omega (arith, h, a, q, l, m.index)) in
      let y : stored_clauses t ≡ m.left = m.new ∙ nothing-behind m.left m.rest (omega (arith, h, b, r, m.index, m.places)) in
      subst (λ xs. Filters Leaves f xs (stored_clauses t) g) (sym x) (subst (λ xs. Filters Leaves f m.first xs g) (sym y) m.filtered)

  module _ (h : i < length s.places) (e : p ≡ get_or t.places i 0) where
    -- the next clause
    next-clause : (k : StoredClause) × (zs : List StoredClause) × (m.rest ≡ k ∷ zs) × (stored_at (stored_clauses t) p ≡ k) × (p ≡ k.place)
    next-clause =
        let a = length-places t.words t.places in
        let b = ap length m.new in
        let l : i < length t.places = omega (arith, h, m.places) in
        let (k, zs, r, q) = behind m.left m.rest (omega (arith, l, a, b, m.index)) in
        let c : get_or (stored_clauses t) i no_clause ≡ k = ap (λ xs. get_or xs i no_clause) m.new
        ∙ ap (λ (n : ℕ). get_or (m.left ++ m.rest) n no_clause) m.index ∙ q in
        let o : p ≡ k.place = e ∙ sym (ap (λ (x : StoredClause). x.place) (place-of t.words t.places i l)) ∙ ap (λ (x : StoredClause). x.place) c in
        (k, zs, r, sym (clause-of-index t i p l e) ∙ c, o)

    pub filtering-accepted : (header_at (stored_clauses t) p).deleted ≡ false → Accepts g (stored_at (stored_clauses t) p)
    filtering-accepted live =
        let (k, zs, r, c, o) = next-clause in
        m.accepted (stored_at (stored_clauses t) p) (subst (λ xs. stored_at (stored_clauses t) p ∈ xs) (sym r) (inl c)) (rw live refl)

    -- it was passed
    pub filtering-more : (j : StoredClause) (o : F) (u : Store) (b : Database) → FiltersOne Leaves g (stored_at (stored_clauses t) p) j o →
        HoldsClauses u (length t.words) (with_stored (stored_clauses t) p j) → ((k : StoredClause) → Accepts g k → Accepts o k) → Tracks b u →
        IsFiltering Leaves Accepts f o s u b (i + 1)
    filtering-more j o u b q w more t2 =
        let (k, zs, r, c, at) = next-clause in
        let is : stored_clauses t ≡ m.left ++ k ∷ zs = m.new ∙ ap (λ xs. m.left ++ xs) r in
        let new : stored_clauses u ≡ m.left ++ j ∷ zs = w.clauses ∙ ap (λ (x : ℕ). with_stored (stored_clauses t) x j) at
        ∙ ap (λ xs. with_stored xs k.place j) is ∙ with-behind m.left zs k j (subst AreRising is (are-rising t m.tracks.sound)) in
        record {
          first = m.first ++ k ∷ [];
          rest = zs;
          left = m.left ++ j ∷ [];
          index = let l = length-more m.left j in omega (arith, l, m.index);
          old = m.old ∙ ap (λ xs. m.first ++ xs) r ∙ regrouped m.first k zs;
          filtered = filters-more Leaves f g o m.first m.left k j m.filtered (subst (λ (x : StoredClause). FiltersOne Leaves g x j o) c q);
          new = new ∙ regrouped m.left j zs;
          size = w.words ∙ m.size;
          places =
              let x = length-places u.words u.places in
              let y = length-places t.words t.places in
              let z = ap length w.clauses in
              let v = with-length (stored_clauses t) p j in
              omega (arith, x, y, z, v, m.places);
          accepted = λ x y live. more x (m.accepted x (subst (λ xs. x ∈ xs) (sym r) (inr y)) live);
          tracks = t2;
        }

    -- it was deleted before
    pub filtering-over : (header_at (stored_clauses t) p).deleted ≡ true → IsFiltering Leaves Accepts f g s t d (i + 1)
    filtering-over dead =
        filtering-more (stored_at (stored_clauses t) p) g t d (PassesOver dead refl refl)
        (record { sound = m.tracks.sound; words = refl; clauses = sym (clause-self (stored_clauses t) p) }) (λ k a. a) m.tracks

    -- the filter came to it
    pub filtering-on : (o : F) (u : Store) (b : Database) → IsClauseRef (stored_clauses t) p → (header_at (stored_clauses t) p).deleted ≡ false →
        FiltersAt Leaves g o t u p → ((k : StoredClause) → Accepts g k → Accepts o k) → Tracks b u → IsFiltering Leaves Accepts f o s u b (i + 1)
    filtering-on o u b at live w more t2 =
        filtering-more w.clause o u b (ComesTo live (w.place ∙ sym (place-is (stored_clauses t) p at)) w.tier w.left) w.is more t2
