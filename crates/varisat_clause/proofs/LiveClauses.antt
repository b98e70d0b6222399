-- The clauses that are not deleted, one by one.
use Rattle.std.proofs.Common.{◌≡◌, ℕ, ◌+◌, ◌<◌, ◌≤◌, List, [], ◌∷◌, length, map, drop, get_or, true, false, cond, sym, ap, ◌∙◌, arith, add-one}
use Rattle.std.proofs.Math.ListN.{drop_of_length-le}
use Rattle.std.proofs.Math.Seq.{drop-cons}
use Rattle.varisat_clause.specs.Stored.{StoredClause, no_clause, header_at}
use Rattle.varisat_clause.specs.Stores.{Store, stored_clauses}
use Rattle.varisat_clause.specs.Collected.{live_of}
use Rattle.varisat_clause.specs.Filters.{live_places}
use Rattle.varisat_clause.proofs.CollectedClauses.{clause-of-index, length-places}
use Rattle.varisat_clause.proofs.StoreSound.{place-of}

pub drop-next : (ks : List StoredClause) (i : ℕ) → i < length ks → drop i ks ≡ get_or ks i no_clause ∷ drop (i + 1) ks
drop-next ks i h = drop-cons ks i no_clause h ∙ ap (λ (n : ℕ). get_or ks i no_clause ∷ drop n ks) (sym (add-one i))

-- the next clause is deleted
pub live-skipped : (s : Store) (i p : ℕ) → i < length s.places → p ≡ get_or s.places i 0 → (header_at (stored_clauses s) p).deleted ≡ true →
    live_places (drop (i + 1) (stored_clauses s)) ≡ live_places (drop i (stored_clauses s))
live-skipped s i p h q e =
    let l = length-places s.words s.places in
    let k : StoredClause = get_or (stored_clauses s) i no_clause in
    let d : k.header.deleted ≡ true = ap (λ (x : StoredClause). x.header.deleted) (clause-of-index s i p h q) ∙ e in
    sym (ap live_places (drop-next (stored_clauses s) i (omega (arith, h, l)))
    ∙ ap (λ b. map (λ (x : StoredClause). x.place) (cond b (live_of (drop (i + 1) (stored_clauses s))) (k ∷ live_of (drop (i + 1) (stored_clauses s))))) d)

-- it is not
pub live-taken : (s : Store) (i p : ℕ) → i < length s.places → p ≡ get_or s.places i 0 → (header_at (stored_clauses s) p).deleted ≡ false →
    live_places (drop i (stored_clauses s)) ≡ p ∷ live_places (drop (i + 1) (stored_clauses s))
live-taken s i p h q e =
    let l = length-places s.words s.places in
    let k : StoredClause = get_or (stored_clauses s) i no_clause in
    let d : k.header.deleted ≡ false = ap (λ (x : StoredClause). x.header.deleted) (clause-of-index s i p h q) ∙ e in
    let f : k.place ≡ p = ap (λ (x : StoredClause). x.place) (place-of s.words s.places i h) ∙ sym q in
    ap live_places (drop-next (stored_clauses s) i (omega (arith, h, l)))
    ∙ ap (λ b. map (λ (x : StoredClause). x.place)
    (cond b (live_of (drop (i + 1) (stored_clauses s))) (k ∷ live_of (drop (i + 1) (stored_clauses s))))) d
    ∙ ap (λ (x : ℕ). x ∷ live_places (drop (i + 1) (stored_clauses s))) f

-- none is left
pub live-ended : (s : Store) (i : ℕ) → length s.places ≤ i → live_places (drop i (stored_clauses s)) ≡ []
live-ended s i h = let l = length-places s.words s.places in ap live_places (drop_of_length-le (stored_clauses s) {i = i} (omega (arith, h, l)))
