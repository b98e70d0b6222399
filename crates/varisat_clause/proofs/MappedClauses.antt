-- Clauses that are changed one after another, each by its place.
use Rattle.std.proofs.Common.{◌≡◌, ℕ, zero, suc, ◌+◌, ◌<◌, ◌≤◌, List, [], ◌∷◌, length, map, get_or, refl, sym, ap, ◌∙◌, inl, inr, arith, add-one}
use Rattle.varisat_theory.specs.promises.Membership.{◌∈◌}
use Rattle.varisat_clause.specs.Stored.{StoredClause, IsClauseRef, AreRising, no_clause, stored_at, with_stored}
use Rattle.varisat_clause.specs.Stores.{Store, stored_clauses, IsSound, HoldsClauses}
use Rattle.varisat_clause.specs.Reductions.{mapped_up_to}
use Rattle.varisat_clause.proofs.StoredClauses.{stored-here, stored-later, clause-here, clause-later}
use Rattle.varisat_clause.proofs.StoreSound.{are-rising, place-of}
use Rattle.varisat_clause.proofs.CollectedClauses.{length-places}

pub mapped-all : (f : StoredClause → StoredClause) (i : ℕ) (ks : List StoredClause) → length ks ≤ i → mapped_up_to f i ks ≡ map f ks
mapped-all f zero [] h = refl
mapped-all f zero (k ∷ ks) h = absurd (omega (arith, h))
mapped-all f (suc i) [] h = refl
mapped-all f (suc i) (k ∷ ks) h = ap (λ xs. f k ∷ xs) (mapped-all f i ks (omega (arith, h)))

pub mapped-length : (f : StoredClause → StoredClause) (i : ℕ) (ks : List StoredClause) → length (mapped_up_to f i ks) ≡ length ks
mapped-length f zero ks = refl
mapped-length f (suc i) [] = refl
mapped-length f (suc i) (k ∷ ks) = ap suc (mapped-length f i ks)

later-above : (k : StoredClause) (ks : List StoredClause) (i : ℕ) → AreRising (k ∷ ks) → i < length ks → k.place < (get_or ks i no_clause).place
later-above k ks i r h = r.0 (get_or ks i no_clause) (inside ks i h)
  where
    inside : (xs : List StoredClause) (j : ℕ) → j < length xs → get_or xs j no_clause ∈ xs
    inside [] j l = absurd (omega arith)
    inside (x ∷ xs) zero l = inl refl
    inside (x ∷ xs) (suc j) l = inr (inside xs j (omega arith))

module _ (f : StoredClause → StoredClause) (places : (k : StoredClause) → (f k).place ≡ k.place) where
  -- the clause of the index is not changed yet
  pub mapped-at : (i : ℕ) (ks : List StoredClause) → i < length ks → AreRising ks →
      stored_at (mapped_up_to f i ks) (get_or ks i no_clause).place ≡ get_or ks i no_clause
  mapped-at i [] h r = absurd (omega (arith, h))
  mapped-at zero (k ∷ ks) h r = stored-here k ks k.place refl
  mapped-at (suc i) (k ∷ ks) h r =
      let l = later-above k ks i r (omega (arith, h)) in
      stored-later (f k) (mapped_up_to f i ks) (get_or ks i no_clause).place (λ e. let q = places k in absurd (omega (arith, e, l, q)))
      ∙ mapped-at i ks (omega (arith, h)) r.1

  -- one more is changed
  pub mapped-next : (i : ℕ) (ks : List StoredClause) → i < length ks → AreRising ks →
      with_stored (mapped_up_to f i ks) (get_or ks i no_clause).place (f (get_or ks i no_clause)) ≡ mapped_up_to f (suc i) ks
  mapped-next i [] h r = absurd (omega (arith, h))
  mapped-next zero (k ∷ ks) h r = clause-here k ks k.place (f k) refl
  mapped-next (suc i) (k ∷ ks) h r =
      let l = later-above k ks i r (omega (arith, h)) in
      clause-later (f k) (mapped_up_to f i ks) (get_or ks i no_clause).place (f (get_or ks i no_clause))
      (λ e. let q = places k in absurd (omega (arith, e, l, q))) ∙ ap (λ xs. f k ∷ xs) (mapped-next i ks (omega (arith, h)) r.1)

-- the store whose first i clauses are changed
pub record IsMapped (f : StoredClause → StoredClause) (s t : Store) (i : ℕ) : Type 0 where
  pub store : HoldsClauses t (length s.words) (mapped_up_to f i (stored_clauses s))
  pub places : length t.places ≡ length s.places

pub mapped-none : (f : StoredClause → StoredClause) (s : Store) → IsSound s → IsMapped f s s 0
mapped-none f s ok = record { store = record { sound = ok; words = refl; clauses = refl }; places = refl }

-- the place of an index
pub mapped-place : (f : StoredClause → StoredClause) (s t : Store) (i p : ℕ) → ((k : StoredClause) → (f k).place ≡ k.place) → i < length s.places →
    IsMapped f s t i → p ≡ get_or t.places i 0 → p ≡ (get_or (stored_clauses s) i no_clause).place
mapped-place f s t i p places h m e =
    let l : i < length t.places = omega (arith, h, m.places) in
    e ∙ sym (ap (λ (x : StoredClause). x.place) (place-of t.words t.places i l)) ∙ ap (λ xs. (get_or xs i no_clause).place) (m.store.clauses)
    ∙ unchanged f i (stored_clauses s)
  where
    unchanged : (f : StoredClause → StoredClause) (i : ℕ) (ks : List StoredClause) →
        (get_or (mapped_up_to f i ks) i no_clause).place ≡ (get_or ks i no_clause).place
    unchanged f zero ks = refl
    unchanged f (suc i) [] = refl
    unchanged f (suc i) (k ∷ ks) = unchanged f i ks

-- the clause there, and the store after it was changed
pub mapped-stored : (f : StoredClause → StoredClause) (s t : Store) (i p : ℕ) → ((k : StoredClause) → (f k).place ≡ k.place) → IsSound s →
    i < length s.places → IsMapped f s t i → p ≡ get_or t.places i 0 → stored_at (stored_clauses t) p ≡ get_or (stored_clauses s) i no_clause
mapped-stored f s t i p places ok h m e =
    let n = length-places s.words s.places in
    ap (λ ks. stored_at ks p) m.store.clauses ∙ ap (stored_at (mapped_up_to f i (stored_clauses s))) (mapped-place f s t i p places h m e)
    ∙ mapped-at f places i (stored_clauses s) (omega (arith, h, n)) (are-rising s ok)

pub mapped-more : (f : StoredClause → StoredClause) (s t u : Store) (i p : ℕ) (j : StoredClause) → ((k : StoredClause) → (f k).place ≡ k.place) →
    IsSound s → i < length s.places → IsMapped f s t i → p ≡ get_or t.places i 0 → j ≡ f (stored_at (stored_clauses t) p) →
    HoldsClauses u (length t.words) (with_stored (stored_clauses t) p j) → IsMapped f s u (i + 1)
mapped-more f s t u i p j places ok h m e q o =
    let n = length-places s.words s.places in
    let at = mapped-place f s t i p places h m e in
    let k = mapped-stored f s t i p places ok h m e in
    let c : stored_clauses u ≡ mapped_up_to f (i + 1) (stored_clauses s) =
    o.clauses
    ∙ ap (with_stored (stored_clauses t) p) (q ∙ ap f k)
    ∙ ap (λ xs. with_stored xs p (f (get_or (stored_clauses s) i no_clause))) m.store.clauses
    ∙ ap (λ (x : ℕ). with_stored (mapped_up_to f i (stored_clauses s)) x (f (get_or (stored_clauses s) i no_clause))) at
    ∙ mapped-next f places i (stored_clauses s) (omega (arith, h, n)) (are-rising s ok)
    ∙ ap (λ (x : ℕ). mapped_up_to f x (stored_clauses s)) (sym (add-one i)) in
    record {
      store = record { sound = o.sound; words = o.words ∙ m.store.words; clauses = c };
      places =
          let a = length-places u.words u.places in
          let b = ap length c in
          let d = mapped-length f (i + 1) (stored_clauses s) in
          omega (arith, a, b, d, n);
    }

-- a clause that stays as it is
pub mapped-same : (f : StoredClause → StoredClause) (s t : Store) (i p : ℕ) → ((k : StoredClause) → (f k).place ≡ k.place) → IsSound s →
    i < length s.places → IsMapped f s t i → p ≡ get_or t.places i 0 → f (stored_at (stored_clauses t) p) ≡ stored_at (stored_clauses t) p →
    with_stored (stored_clauses t) p (stored_at (stored_clauses t) p) ≡ stored_clauses t → IsMapped f s t (i + 1)
mapped-same f s t i p places ok h m e q o =
    mapped-more f s t t i p (stored_at (stored_clauses t) p) places ok h m e (sym q) (record { sound = m.store.sound; words = refl; clauses = sym o })

pub mapped-done : (f : StoredClause → StoredClause) (s t : Store) (i : ℕ) → length s.places ≤ i → IsMapped f s t i →
    HoldsClauses t (length s.words) (map f (stored_clauses s))
mapped-done f s t i h m =
    let n = length-places s.words s.places in
    record { sound = m.store.sound; words = m.store.words; clauses = m.store.clauses ∙ mapped-all f i (stored_clauses s) (omega (arith, h, n)) }

-- a place stays one
pub mapped-known : (f : StoredClause → StoredClause) (ks : List StoredClause) (p : ℕ) → ((k : StoredClause) → (f k).place ≡ k.place) →
    IsClauseRef ks p → IsClauseRef (map f ks) p
mapped-known f [] p places h = h
mapped-known f (k ∷ ks) p places (j, inl e, q) = (f k, inl refl, places k ∙ sym (ap (λ (x : StoredClause). x.place) e) ∙ q)
mapped-known f (k ∷ ks) p places (j, inr i, q) = let (x, m, r) = mapped-known f ks p places (j, i, q) in (x, inr m, r)
