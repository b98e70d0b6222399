-- Sound stores: as a test, and what their clauses are.
use Rattle.std.proofs.Common.{◌≡◌, ℕ, zero, suc, ◌+◌, ◌<◌, ◌≤◌, ◌^◌, List, [], ◌∷◌, length, map, take, drop, get_or, Bool, true, false, nat_le, nat_lt, refl, sym, subst, inl, inr, arith, length-drop}
use Rattle.std.specs.Prelude.{◌&&◌}
use Rattle.std.proofs.Math.ListN.{length-take}
use Rattle.std.proofs.lemmas.Bool.{and_from, lt-ltb, le-leb, leb-true}
use Rattle.varisat_theory.specs.promises.Membership.{◌∈◌}
use Rattle.varisat_clause.specs.Stored.{StoredClause, IsClauseRef, AreRising, AreLong, no_clause}
use Rattle.varisat_clause.specs.Stores.{Store, len_at, clause_in, stored_clauses, Lies, FitsWords, IsSound, lies, fit, is_sound}
use Rattle.varisat_clause.proofs.StoreWords.{lies-at, from-place, to-place}

and-left : (a b : Bool) → (a && b) ≡ true → a ≡ true
and-left true b p = refl
and-left false b p = absurd (cc)

and-right : (a b : Bool) → (a && b) ≡ true → b ≡ true
and-right true b p = p
and-right false b p = absurd (cc)

from-below : (a b : ℕ) → nat_lt a b ≡ true → a < b
from-below a b h = grind arith

lies-true : (ws : List ℕ) (low high p : ℕ) → Lies ws low high p → lies ws low high p ≡ true
lies-true ws low high p l =
    and_from (nat_le low p && nat_le 3 (len_at ws p) && nat_le (p + 3 + len_at ws p) high) (nat_lt (get_or ws (p + 1) 0) (2 ^ 11))
    (and_from (nat_le low p && nat_le 3 (len_at ws p)) (nat_le (p + 3 + len_at ws p) high)
    (and_from (nat_le low p) (nat_le 3 (len_at ws p)) (le-leb low p l.begins) (le-leb 3 (len_at ws p) l.long)) (le-leb (p + 3 + len_at ws p) high l.ends))
    (lt-ltb (get_or ws (p + 1) 0) (2 ^ 11) l.flags)

true-lies : (ws : List ℕ) (low high p : ℕ) → lies ws low high p ≡ true → Lies ws low high p
true-lies ws low high p h =
    let a = and-left (nat_le low p && nat_le 3 (len_at ws p) && nat_le (p + 3 + len_at ws p) high) (nat_lt (get_or ws (p + 1) 0) (2 ^ 11)) h in
    let b = and-left (nat_le low p && nat_le 3 (len_at ws p)) (nat_le (p + 3 + len_at ws p) high) a in
    record {
      begins = leb-true low p (and-left (nat_le low p) (nat_le 3 (len_at ws p)) b);
      long = leb-true 3 (len_at ws p) (and-right (nat_le low p) (nat_le 3 (len_at ws p)) b);
      ends = leb-true (p + 3 + len_at ws p) high (and-right (nat_le low p && nat_le 3 (len_at ws p)) (nat_le (p + 3 + len_at ws p) high) a);
      flags = from-below (get_or ws (p + 1) 0) (2 ^ 11)
          (and-right (nat_le low p && nat_le 3 (len_at ws p) && nat_le (p + 3 + len_at ws p) high) (nat_lt (get_or ws (p + 1) 0) (2 ^ 11)) h);
    }

fit-true : (ws : List ℕ) (low high : ℕ) (ps : List ℕ) → FitsWords ws low high ps → fit ws low high ps ≡ true
fit-true ws low high [] f = le-leb low high f
fit-true ws low high (p ∷ ps) f = and_from (lies ws low high p) (fit ws (p + 3 + len_at ws p) high ps) (lies-true ws low high p f.0)
    (fit-true ws (p + 3 + len_at ws p) high ps f.1)

true-fits : (ws : List ℕ) (low high : ℕ) (ps : List ℕ) → fit ws low high ps ≡ true → FitsWords ws low high ps
true-fits ws low high [] h = leb-true low high h
true-fits ws low high (p ∷ ps) h = (
  true-lies ws low high p (and-left (lies ws low high p) (fit ws (p + 3 + len_at ws p) high ps) h),
  true-fits ws (p + 3 + len_at ws p) high ps
      (and-right (lies ws low high p) (fit ws (p + 3 + len_at ws p) high ps) h),
)

-- a store is sound just where the test says so
pub sound-is : (s : Store) → IsSound s → is_sound s ≡ true
sound-is s ok = and_from (fit s.words 0 (length s.words) s.places) (nat_lt (length s.words) (2 ^ 32))
    (fit-true s.words 0 (length s.words) s.places ok.fits) (lt-ltb (length s.words) (2 ^ 32) ok.small)

pub is-sound : (s : Store) → is_sound s ≡ true → IsSound s
is-sound s h = record {
  fits = true-fits s.words 0 (length s.words) s.places (and-left (fit s.words 0 (length s.words) s.places) (nat_lt (length s.words) (2 ^ 32)) h);
  small = from-below (length s.words) (2 ^ 32) (and-right (fit s.words 0 (length s.words) s.places) (nat_lt (length s.words) (2 ^ 32)) h);
}

-- The places rise.
rising-from : (ws : List ℕ) (low high : ℕ) (ps : List ℕ) → FitsWords ws low high ps → AreRising (map (clause_in ws) ps)
rising-from ws low high [] f = tt
rising-from ws low high (p ∷ ps) f = (
  (λ j h. let l = lies-at ws (p + 3 + len_at ws p) high ps j.place f.1 (from-place ws ps j.place (j, h, refl)) in omega (arith, l.begins)),
  rising-from ws (p + 3 + len_at ws p) high ps f.1,
)

pub are-rising : (s : Store) → IsSound s → AreRising (stored_clauses s)
are-rising s ok = rising-from s.words 0 (length s.words) s.places ok.fits

-- Each clause has three literals or more, as its header says.
long-from : (ws : List ℕ) (low high : ℕ) (ps : List ℕ) → high ≤ length ws → FitsWords ws low high ps → AreLong (map (clause_in ws) ps)
long-from ws low high [] hi f k h = absurd h
long-from ws low high (p ∷ ps) hi f k (inl e) =
    let l = f.0 in
    let up = places-high ws (p + 3 + len_at ws p) high ps f.1 in
    let n : length (take (len_at ws p) (drop (p + 3) ws)) ≡ len_at ws p = simp (length-take, length-drop) (omega (arith, l.ends, hi)) in
    subst (λ (x : StoredClause). (3 ≤ length x.literals) × (x.header.len ≡ length x.literals)) (sym e) (omega (arith, l.long, n), sym n)
  where
    places-high : (ws : List ℕ) (low high : ℕ) (ps : List ℕ) → FitsWords ws low high ps → low ≤ high
    places-high ws low high [] f = f
    places-high ws low high (p ∷ ps) f = let l = f.0 in omega (arith, l.begins, l.ends)
long-from ws low high (p ∷ ps) hi f k (inr h) = long-from ws (p + 3 + len_at ws p) high ps hi f.1 k h

pub are-long : (s : Store) → IsSound s → AreLong (stored_clauses s)
are-long s ok = long-from s.words 0 (length s.words) s.places (omega arith) ok.fits

-- a place is one of the list
pub place-listed : (s : Store) (p : ℕ) → IsClauseRef (stored_clauses s) p → p ∈ s.places
place-listed s p h = from-place s.words s.places p h

pub listed-place : (s : Store) (p : ℕ) → p ∈ s.places → IsClauseRef (stored_clauses s) p
listed-place s p h = to-place s.words s.places p h

-- the place of a clause by its index
pub place-of : (ws ps : List ℕ) (i : ℕ) → i < length ps → get_or (map (clause_in ws) ps) i no_clause ≡ clause_in ws (get_or ps i 0)
place-of ws [] i h = absurd (omega arith)
place-of ws (p ∷ ps) zero h = refl
place-of ws (p ∷ ps) (suc i) h = place-of ws ps i (omega arith)
