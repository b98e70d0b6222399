-- What the calls of a store read and leave.
use Rattle.std.proofs.Common.{◌≡◌, ◌≢◌, ℕ, zero, suc, ◌+◌, ◌-◌, ◌<◌, ◌≤◌, ◌^◌, List, [], ◌∷◌, length, take, drop, get_or, set, refl, sym, ap, ◌∙◌, subst, arith, length-set, length-drop}
use Rattle.std.proofs.lemmas.List.{get_or-set_same, get_or-set_other}
use Rattle.std.proofs.Math.ListN.{length-take}
use Rattle.varisat_clause.specs.Headers.{Header, header_of_words, flags_of}
use Rattle.varisat_clause.specs.Stored.{StoredClause, IsClauseRef, stored_at, header_at, literals_at, with_stored, with_header, shortened}
use Rattle.varisat_clause.specs.Stores.{Store, len_at, header_in, clause_in, stored_clauses, IsSound, HoldsClauses, header_written}
use Rattle.varisat_clause.proofs.StoreWords.{found, Rewrites, rewritten, Same, window-same}

-- the words of a clause are read from a copy of the store's
module _ (s : Store) (p o : ℕ) (w : List ℕ) (ok : IsSound s) (h : IsClauseRef (stored_clauses s) p) (ew : w ≡ s.words) (eo : o ≡ p) where
  pub word-in : o + 2 < length w
  word-in = let f = found s p ok h in let l = ap length ew in omega (arith, f.ends, l, eo)

  pub flags-in : get_or w (o + 1) 0 < 2 ^ 11
  flags-in = rw (ew, eo) ((found s p ok h).flags)

  pub header-read : header_in w o ≡ header_at (stored_clauses s) p
  header-read = rw (ew, eo) (ap (λ (x : StoredClause). x.header) (sym ((found s p ok h).is)))

  pub len-read : (n : ℕ) → n ≡ get_or w (o + 2) 0 → n ≡ len_at s.words p
  len-read n e = e ∙ rw (ew, eo) refl

  pub literals-end : (n : ℕ) → n ≡ get_or w (o + 2) 0 → o + 3 + n ≤ length w
  literals-end n e = let f = found s p ok h in let l = ap length ew in let k = len-read n e in omega (arith, f.ends, l, eo, k)

  pub literals-read : (n : ℕ) → n ≡ get_or w (o + 2) 0 → take (o + 3 + n - (o + 3)) (drop (o + 3) w) ≡ literals_at (stored_clauses s) p
  literals-read n e =
      let m : o + 3 + n - (o + 3) ≡ len_at s.words p = let k = len-read n e in omega (arith, k) in
      rw (m, ew, eo) (ap (λ (x : StoredClause). x.literals) (sym ((found s p ok h).is)))

  pub literals-long : (n : ℕ) → n ≡ get_or w (o + 2) 0 → length (take (o + 3 + n - (o + 3)) (drop (o + 3) w)) ≡ len_at s.words p
  literals-long n e =
      let m : o + 3 + n - (o + 3) ≡ len_at s.words p = let k = len-read n e in omega (arith, k) in
      rw (m, ew, eo) (simp (length-take, length-drop) (let f = found s p ok h in omega (arith, f.ends)))

-- the words of a header that was written
module _ (ws : List ℕ) (p : ℕ) (h : Header) (room : p + 2 < length ws) where
  pub written-activity : get_or (header_written ws p h) p 0 ≡ h.activity
  written-activity =
      get_or-set_other (set (set ws p h.activity) (p + 1) (flags_of h)) (p + 2) p h.len 0 (λ e. absurd (omega (arith, e)))
      ∙ get_or-set_other (set ws p h.activity) (p + 1) p (flags_of h) 0 (λ e. absurd (omega (arith, e)))
      ∙ get_or-set_same ws p h.activity 0 (omega (arith, room))

  pub written-flags : get_or (header_written ws p h) (p + 1) 0 ≡ flags_of h
  written-flags =
      get_or-set_other (set (set ws p h.activity) (p + 1) (flags_of h)) (p + 2) (p + 1) h.len 0 (λ e. absurd (omega (arith, e)))
      ∙ get_or-set_same (set ws p h.activity) (p + 1) (flags_of h) 0 (simp length-set (omega (arith, room)))

  pub written-len : get_or (header_written ws p h) (p + 2) 0 ≡ h.len
  written-len = get_or-set_same (set (set ws p h.activity) (p + 1) (flags_of h)) (p + 2) h.len 0 (simp length-set room)

  pub written-other : (k : ℕ) → k ≢ p → k ≢ p + 1 → k ≢ p + 2 → get_or (header_written ws p h) k 0 ≡ get_or ws k 0
  written-other k a b c =
      get_or-set_other (set (set ws p h.activity) (p + 1) (flags_of h)) (p + 2) k h.len 0 c
      ∙ get_or-set_other (set ws p h.activity) (p + 1) k (flags_of h) 0 b
      ∙ get_or-set_other ws p k h.activity 0 a

  pub written-length : length (header_written ws p h) ≡ length ws
  written-length = simp length-set

-- a header of the same length is written
pub header-put : (s n : Store) (p o : ℕ) (w : List ℕ) (h : Header) → IsSound s → IsClauseRef (stored_clauses s) p → w ≡ s.words → o ≡ p →
    h.len ≡ (header_at (stored_clauses s) p).len → flags_of h < 2 ^ 11 → header_of_words h.activity (flags_of h) h.len ≡ h →
    n.words ≡ header_written w o h → n.places ≡ s.places → HoldsClauses n (length s.words) (with_header (stored_clauses s) p h)
header-put s n p o w h ok at ew eo el small back en ep =
    let f = found s p ok at in
    let room : p + 2 < length s.words = omega (arith, f.ends) in
    let new : List ℕ = header_written s.words p h in
    let is : n.words ≡ new = en ∙ rw (ew, eo) refl in
    let long : h.len ≡ len_at s.words p = el ∙ ap (λ (x : StoredClause). x.header.len) f.is in
    let r : Rewrites s.words new p = record {
      as_long = written-length s.words p h room;
      before = λ k l. written-other s.words p h room k (λ e. absurd (omega (arith, l, e))) (λ e. absurd (omega (arith, l, e)))
          (λ e. absurd (omega (arith, l, e)));
      after = λ k l. written-other s.words p h room k (λ e. absurd (omega (arith, l, e))) (λ e. absurd (omega (arith, l, e)))
          (λ e. absurd (omega (arith, l, e)));
      shorter = let e = written-len s.words p h room in omega (arith, e, long);
      long = let e = written-len s.words p h room in omega (arith, e, long, f.long);
      flags = rw (written-flags s.words p h room) small;
    } in
    let hold = rewritten s n p ok at ep (subst (λ (x : List ℕ). Rewrites s.words x p) (sym is) r) in
    let same : Same s.words new (p + 3) (p + 3 + len_at s.words p) = record {
      words = λ k l u. written-other s.words p h room k (λ e. absurd (omega (arith, l, e))) (λ e. absurd (omega (arith, l, e)))
          (λ e. absurd (omega (arith, l, e)));
      room = f.ends;
      new_room = let e = written-length s.words p h room in omega (arith, e, f.ends);
    } in
    let lits : take (len_at s.words p) (drop (p + 3) new) ≡ take (len_at s.words p) (drop (p + 3) s.words) =
    window-same s.words new (p + 3) (len_at s.words p) same in
    let hd : header_in new p ≡ h = rw (written-activity s.words p h room, written-flags s.words p h room, written-len s.words p h room) back in
    let li : take (len_at new p) (drop (p + 3) new) ≡ take (len_at s.words p) (drop (p + 3) s.words) =
    ap (λ (x : ℕ). take x (drop (p + 3) new)) (written-len s.words p h room ∙ long) ∙ lits in
    let c : clause_in new p ≡ record (stored_at (stored_clauses s) p) { header = h } =
    ap (λ (x : Header). record { place = p; header = x; literals = take (len_at new p) (drop (p + 3) new) }) hd
    ∙ ap (λ (x : List ℕ). record { place = p; header = h; literals = x }) li
    ∙ ap (λ (x : StoredClause). record x { header = h }) (sym f.is) in
    record {
      sound = hold.sound;
      words = hold.words;
      clauses = hold.clauses ∙ ap (λ (x : List ℕ). with_stored (stored_clauses s) p (clause_in x p)) is ∙ ap (with_stored (stored_clauses s) p) c;
    }

-- the first of a longer beginning
take-take : (xs : List ℕ) (m n : ℕ) → m ≤ n → take m (take n xs) ≡ take m xs
take-take [] zero zero h = refl
take-take [] zero (suc n) h = refl
take-take [] (suc m) zero h = refl
take-take [] (suc m) (suc n) h = refl
take-take (x ∷ xs) zero n h = refl
take-take (x ∷ xs) (suc m) zero h = absurd (omega (arith, h))
take-take (x ∷ xs) (suc m) (suc n) h = ap (λ ys. x ∷ ys) (take-take xs m n (omega (arith, h)))

-- a length is written
pub length-put : (s n : Store) (p o c : ℕ) (w : List ℕ) → IsSound s → IsClauseRef (stored_clauses s) p → w ≡ s.words → o ≡ p → 3 ≤ c →
    c ≤ (header_at (stored_clauses s) p).len → n.words ≡ set w (o + 2) c → n.places ≡ s.places →
    HoldsClauses n (length s.words) (shortened (stored_clauses s) p c)
length-put s n p o c w ok at ew eo least most en ep =
    let f = found s p ok at in
    let room : p + 2 < length s.words = omega (arith, f.ends) in
    let new : List ℕ = set s.words (p + 2) c in
    let is : n.words ≡ new = en ∙ rw (ew, eo) refl in
    let short : c ≤ len_at s.words p = let e = ap (λ (x : StoredClause). x.header.len) f.is in omega (arith, most, e) in
    let here : get_or new (p + 2) 0 ≡ c = get_or-set_same s.words (p + 2) c 0 room in
    let other : (k : ℕ) → k ≢ p + 2 → get_or new k 0 ≡ get_or s.words k 0 = λ k e. get_or-set_other s.words (p + 2) k c 0 e in
    let len : length new ≡ length s.words = simp length-set in
    let r : Rewrites s.words new p = record {
      as_long = len;
      before = λ k l. other k (λ e. absurd (omega (arith, l, e)));
      after = λ k l. other k (λ e. absurd (omega (arith, l, e)));
      shorter = omega (arith, here, short);
      long = omega (arith, here, least);
      flags = rw (other (p + 1) (λ e. absurd (omega (arith, e)))) f.flags;
    } in
    let hold = rewritten s n p ok at ep (subst (λ (x : List ℕ). Rewrites s.words x p) (sym is) r) in
    let same : Same s.words new (p + 3) (p + 3 + c) = record {
      words = λ k l u. other k (λ e. absurd (omega (arith, l, e)));
      room = omega (arith, f.ends, short);
      new_room = omega (arith, len, f.ends, short);
    } in
    let lits : take c (drop (p + 3) new) ≡ take c (take (len_at s.words p) (drop (p + 3) s.words)) = window-same s.words new (p + 3) c same
    ∙ sym (take-take (drop (p + 3) s.words) c (len_at s.words p) short) in
    let w0 : get_or new p 0 ≡ get_or s.words p 0 = other p (λ e. absurd (omega (arith, e))) in
    let w1 : get_or new (p + 1) 0 ≡ get_or s.words (p + 1) 0 = other (p + 1) (λ e. absurd (omega (arith, e))) in
    let j : StoredClause → StoredClause = λ (x : StoredClause). record { place = p; header = record x.header { len = c }; literals = take c x.literals } in
    let e : clause_in new p ≡ j (stored_at (stored_clauses s) p) = rw (w0, w1, here, lits) (ap j (sym f.is)) in
    record {
      sound = hold.sound;
      words = hold.words;
      clauses = hold.clauses ∙ ap (λ (x : List ℕ). with_stored (stored_clauses s) p (clause_in x p)) is ∙ ap (with_stored (stored_clauses s) p) e;
    }
