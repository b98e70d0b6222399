-- Clauses in the words of a store: what stays where the words stay, and what a write changes.
use Rattle.std.proofs.Common.{◌≡◌, ◌≢◌, ℕ, ◌+◌, ◌-◌, ◌<◌, ◌≤◌, ◌^◌, List, [], ◌∷◌, ◌++◌, length, map, take, drop, get_or, refl, sym, ap, ◌∙◌, subst, inl, inr, ⊎_elim, add-zero, arith, length-append, length-drop}
use Rattle.std.proofs.lemmas.List.{ext_get_or, get_or-drop, get_or-take, get_or_append_left, map-append, append-nil, get_or-append-add, get_or-append_right}
use Rattle.std.proofs.Math.ListN.{length-take, drop_of_length-le}
use Rattle.std.proofs.Math.Seq.{take-length, drop-append-add, drop-append_seam, take-append_seam}
use Rattle.varisat_theory.specs.promises.Membership.{◌∈◌}
use Rattle.varisat_theory.proofs.clauses.Members.{equal_or_not}
use Rattle.varisat_clause.specs.Headers.{Header, header_of_words, flags_of}
use Rattle.varisat_clause.specs.Stored.{StoredClause, IsClauseRef, stored_at, with_stored, with_literals}
use Rattle.varisat_clause.specs.Stores.{Store, len_at, clause_in, stored_clauses, Lies, FitsWords, IsSound, HoldsClauses, AddsStored, splice, put_words}
use Rattle.varisat_clause.proofs.StoredClauses.{stored-here, stored-later, clause-here, clause-later, literals-clause}

-- the words from low to below high are the same
pub record Same (buf new : List ℕ) (low high : ℕ) : Type 0 where
  pub words : (k : ℕ) → low ≤ k → k < high → get_or new k 0 ≡ get_or buf k 0
  pub room : high ≤ length buf
  pub new_room : high ≤ length new

pub window-same : (buf new : List ℕ) (p n : ℕ) → Same buf new p (p + n) → take n (drop p new) ≡ take n (drop p buf)
window-same buf new p n s =
    let a : length (take n (drop p new)) ≡ n = simp (length-take, length-drop) (omega (arith, s.new_room)) in
    let b : length (take n (drop p buf)) ≡ n = simp (length-take, length-drop) (omega (arith, s.room)) in
    ext_get_or 0 (take n (drop p new)) (take n (drop p buf)) (a ∙ sym b)
    (λ i h. let l : i < n = omega (arith, a) in
    get_or-take n (drop p new) i 0 l ∙ get_or-drop p new i 0 ∙ s.words (p + i) (omega arith) (omega arith) ∙ sym (get_or-drop p buf i 0)
    ∙ sym (get_or-take n (drop p buf) i 0 l))

pub clause-stays : (buf new : List ℕ) (p : ℕ) → Same buf new p (p + 3 + len_at buf p) → clause_in new p ≡ clause_in buf p
clause-stays buf new p s =
    let e0 : get_or new p 0 ≡ get_or buf p 0 = s.words p (omega arith) (omega arith) in
    let e1 : get_or new (p + 1) 0 ≡ get_or buf (p + 1) 0 = s.words (p + 1) (omega arith) (omega arith) in
    let e2 : get_or new (p + 2) 0 ≡ get_or buf (p + 2) 0 = s.words (p + 2) (omega arith) (omega arith) in
    let inner : Same buf new (p + 3) (p + 3 + len_at buf p) = record { words = λ k l h. s.words k (omega arith) h; room = s.room; new_room = s.new_room } in
    let w : take (len_at buf p) (drop (p + 3) new) ≡ take (len_at buf p) (drop (p + 3) buf) = window-same buf new (p + 3) (len_at buf p) inner in
    rw (e0, e1, e2, w) refl

pub narrow : (buf new : List ℕ) (low high low' high' : ℕ) → Same buf new low high → low ≤ low' → high' ≤ high → Same buf new low' high'
narrow buf new low high low' high' s a b =
    record { words = λ k l h. s.words k (omega arith) (omega arith); room = omega (arith, s.room); new_room = omega (arith, s.new_room) }

pub low-le : (buf : List ℕ) (low high : ℕ) (ps : List ℕ) → FitsWords buf low high ps → low ≤ high
low-le buf low high [] f = f
low-le buf low high (p ∷ ps) f = let l = f.0 in let r = low-le buf (p + 3 + len_at buf p) high ps f.1 in omega (arith, l.begins, r)

-- all clauses stay where all their words stay
pub clauses-stay : (buf new : List ℕ) (low high : ℕ) (ps : List ℕ) → FitsWords buf low high ps → Same buf new low high →
    (map (clause_in new) ps ≡ map (clause_in buf) ps) × FitsWords new low high ps
clauses-stay buf new low high [] f s = (refl, f)
clauses-stay buf new low high (p ∷ ps) f s =
    let l = f.0 in
    let up = low-le buf (p + 3 + len_at buf p) high ps f.1 in
    let here : Same buf new p (p + 3 + len_at buf p) = narrow buf new low high p (p + 3 + len_at buf p) s l.begins l.ends in
    let e : clause_in new p ≡ clause_in buf p = clause-stays buf new p here in
    let n : len_at new p ≡ len_at buf p = s.words (p + 2) (omega (arith, l.begins)) (omega (arith, l.ends)) in
    let g : get_or new (p + 1) 0 ≡ get_or buf (p + 1) 0 = s.words (p + 1) (omega (arith, l.begins)) (omega (arith, l.ends)) in
    let r = clauses-stay buf new (p + 3 + len_at buf p) high ps f.1
    (narrow buf new low high (p + 3 + len_at buf p) high s (omega (arith, l.begins)) (omega arith)) in
    (rw (e, r.0) refl, (record { begins = l.begins; long = rw n l.long; ends = rw n l.ends; flags = rw g l.flags }, rw n r.1))

pub longer : (buf xs : List ℕ) (low : ℕ) → Same buf (buf ++ xs) low (length buf)
longer buf xs low = record { words = λ k l h. get_or_append_left buf xs 0 k h; room = omega arith; new_room = omega (arith, length-append buf xs) }

-- a further clause at the end
pub Fits-push : (buf : List ℕ) (low : ℕ) (ps : List ℕ) (p high : ℕ) → FitsWords buf low p ps → Lies buf p high p → FitsWords buf low high (ps ++ p ∷ [])
Fits-push buf low [] p high f l = (record { begins = f; long = l.long; ends = l.ends; flags = l.flags }, l.ends)
Fits-push buf low (q ∷ ps) p high f l =
    let k = f.0 in let e = l.ends in
    (record { begins = k.begins; long = k.long; ends = omega (arith, e, k.ends); flags = k.flags }, Fits-push buf (q + 3 + len_at buf q) ps p high f.1 l)

-- the first clause may begin later than it has to
pub Fits-lower : (buf : List ℕ) (low low' high : ℕ) (ps : List ℕ) → low' ≤ low → FitsWords buf low high ps → FitsWords buf low' high ps
Fits-lower buf low low' high [] h f = omega (arith, f)
Fits-lower buf low low' high (p ∷ ps) h f = let l = f.0 in (record { begins = omega (arith, l.begins); long = l.long; ends = l.ends; flags = l.flags }, f.1)

-- the clause at a place lies within the buffer
pub lies-at : (buf : List ℕ) (low high : ℕ) (ps : List ℕ) (p : ℕ) → FitsWords buf low high ps → p ∈ ps → Lies buf low high p
lies-at buf low high [] p f h = absurd h
lies-at buf low high (q ∷ ps) p f (inl e) = subst (Lies buf low high) (sym e) f.0
lies-at buf low high (q ∷ ps) p f (inr h) =
    let l = lies-at buf (q + 3 + len_at buf q) high ps p f.1 h in
    let k = f.0 in
    record { begins = omega (arith, l.begins, k.begins); long = l.long; ends = l.ends; flags = l.flags }

-- the places that name clauses are those of the list
pub from-place : (buf : List ℕ) (ps : List ℕ) (p : ℕ) → IsClauseRef (map (clause_in buf) ps) p → p ∈ ps
from-place buf [] p (k, h, e) = absurd h
from-place buf (q ∷ ps) p (k, inl h, e) = inl (sym e ∙ ap (λ (x : StoredClause). x.place) h)
from-place buf (q ∷ ps) p (k, inr h, e) = inr (from-place buf ps p (k, h, e))

pub to-place : (buf : List ℕ) (ps : List ℕ) (p : ℕ) → p ∈ ps → IsClauseRef (map (clause_in buf) ps) p
to-place buf [] p h = absurd h
to-place buf (q ∷ ps) p (inl e) = (clause_in buf q, inl refl, sym e)
to-place buf (q ∷ ps) p (inr h) = let (k, i, e) = to-place buf ps p h in (k, inr i, e)

pub found-at : (buf : List ℕ) (ps : List ℕ) (p : ℕ) → p ∈ ps → stored_at (map (clause_in buf) ps) p ≡ clause_in buf p
found-at buf [] p h = absurd h
found-at buf (q ∷ ps) p h =
    ⊎_elim
    (λ e. stored-here (clause_in buf q) (map (clause_in buf) ps) p e ∙ ap (clause_in buf) e)
    (λ n. stored-later (clause_in buf q) (map (clause_in buf) ps) p n ∙ found-at buf ps p (⊎_elim (λ e. absurd (n (sym e))) (λ i. i) h))
    (equal_or_not q p)

-- what an offset says of a sound store
pub record Found (s : Store) (p : ℕ) : Type 0 where
  pub ends : p + 3 + len_at s.words p ≤ length s.words
  pub long : 3 ≤ len_at s.words p
  pub flags : get_or s.words (p + 1) 0 < 2 ^ 11
  pub is : stored_at (stored_clauses s) p ≡ clause_in s.words p

pub found : (s : Store) (p : ℕ) → IsSound s → IsClauseRef (stored_clauses s) p → Found s p
found s p ok h =
    let i = from-place s.words s.places p h in
    let l = lies-at s.words 0 (length s.words) s.places p ok.fits i in
    record { ends = l.ends; long = l.long; flags = l.flags; is = found-at s.words s.places p i }

-- the places are below the end
pub places-below : (buf : List ℕ) (low high : ℕ) (ps : List ℕ) → FitsWords buf low high ps → (k : StoredClause) → k ∈ map (clause_in buf) ps → k.place < high
places-below buf low high ps f k h = let l = lies-at buf low high ps k.place f (from-place buf ps k.place (k, h, refl)) in let e = l.ends in omega (arith, e)

-- what add_clause leaves
pub added : (s n : Store) (h : Header) (c : List ℕ) → IsSound s → 3 ≤ length c → length s.words + 3 + length c < 2 ^ 32 → flags_of h < 2 ^ 11 →
    header_of_words h.activity (flags_of h) h.len ≡ h → n.words ≡ s.words ++ (h.activity ∷ flags_of h ∷ length c ∷ c) →
    n.places ≡ s.places ++ length s.words ∷ [] → AddsStored s n (record { place = length s.words; header = record h { len = length c }; literals = c })
added s n h c ok long small flags back ew ep =
    let buf : List ℕ = s.words in
    let ps : List ℕ = s.places in
    let new : List ℕ = buf ++ (h.activity ∷ flags_of h ∷ length c ∷ c) in
    let p : ℕ = length buf in
    let k = clauses-stay buf new 0 (length buf) ps ok.fits (longer buf (h.activity ∷ flags_of h ∷ length c ∷ c) 0) in
    let r0 : get_or new p 0 ≡ h.activity = rw (← add-zero p) (get_or-append-add buf (h.activity ∷ flags_of h ∷ length c ∷ c) 0 0) in
    let r1 : get_or new (p + 1) 0 ≡ flags_of h = get_or-append-add buf (h.activity ∷ flags_of h ∷ length c ∷ c) 1 0 in
    let r2 : get_or new (p + 2) 0 ≡ length c = get_or-append-add buf (h.activity ∷ flags_of h ∷ length c ∷ c) 2 0 in
    let d : drop (p + 3) new ≡ c = drop-append-add buf (h.activity ∷ flags_of h ∷ length c ∷ c) 3 in
    let j : Header = record h { len = length c } in
    let g : header_of_words h.activity (flags_of h) (length c) ≡ j = ap (λ (x : Header). record x { len = length c }) back in
    let e : clause_in new p ≡ record { place = p; header = j; literals = c } =
    rw (r0, r1, r2, d, take-length) (ap (λ (x : Header). record { place = p; header = x; literals = c }) g) in
    let l : length new ≡ p + 3 + length c = omega (arith, length-append buf (h.activity ∷ flags_of h ∷ length c ∷ c)) in
    let m : map (clause_in new) (ps ++ p ∷ []) ≡ map (clause_in buf) ps ++ record { place = p; header = j; literals = c } ∷ [] =
    map-append (clause_in new) ps (p ∷ []) ∙ rw (k.0, e) refl in
    let lies : Lies new p (length new) p = record { begins = omega arith; long = rw r2 long; ends = rw r2 (omega (arith, l)); flags = rw r1 flags } in
    record {
      sound = record { fits = rw (ew, ep) (Fits-push new 0 ps p (length new) k.1 lies); small = rw (ew, l) small };
      place = refl;
      words = rw ew l;
      clauses = (rw (ew, ep) m, places-below buf 0 p ps ok.fits);
    }

-- new is buf with ws written from a on
pub record Spliced (buf new : List ℕ) (a : ℕ) (ws : List ℕ) : Type 0 where
  pub before : (k : ℕ) → k < a → get_or new k 0 ≡ get_or buf k 0
  pub after : (k : ℕ) → a + length ws ≤ k → get_or new k 0 ≡ get_or buf k 0
  pub as_long : length new ≡ length buf
  pub here : take (length ws) (drop a new) ≡ ws

pub spliced : (buf : List ℕ) (a : ℕ) (ws : List ℕ) → a + length ws ≤ length buf →
    Spliced buf (take (length buf) (splice buf a ws ++ drop (length (splice buf a ws)) buf)) a ws
spliced buf a ws h =
    let front : List ℕ = take a buf in
    let back : List ℕ = drop (length ws) (drop a buf) in
    let new : List ℕ = front ++ (ws ++ back) in
    let fl : length front ≡ a = simp length-take (omega arith) in
    let bl : length back + (a + length ws) ≡ length buf = simp length-drop (omega arith) in
    let nl : length new ≡ length buf = simp length-append (omega arith) in
    let none : drop (length new) buf ≡ [] = drop_of_length-le buf (omega arith) in
    let whole : take (length buf) (new ++ drop (length new) buf) ≡ new = rw (none, append-nil, ← nl) (take-length new) in
    let P : List ℕ → Type 0 = λ x. Spliced buf x a ws in
    subst P (sym whole) (record {
      before = λ k l. let lf : k < length front = omega arith in get_or_append_left front (ws ++ back) 0 k lf ∙ get_or-take a buf k 0 l;
      after = λ k l.
          let j : ℕ = k - a - length ws in
          let m : a + (length ws + j) ≡ k = omega arith in
          get_or-append_right front (ws ++ back) a k 0 fl (omega arith) ∙ get_or-append_right ws back (length ws) (k - a) 0 refl (omega arith)
          ∙ get_or-drop (length ws) (drop a buf) j 0 ∙ get_or-drop a buf (length ws + j) 0 ∙ ap (λ (x : ℕ). get_or buf x 0) m;
      as_long = nl;
      here = ap (λ (x : ℕ). take (length ws) (drop x new)) (sym fl) ∙ ap (take (length ws)) (drop-append_seam front (ws ++ back)) ∙ take-append_seam ws back;
    })

-- a write to the words of the clause at p
pub record Rewrites (buf new : List ℕ) (p : ℕ) : Type 0 where
  pub as_long : length new ≡ length buf
  pub before : (k : ℕ) → k < p → get_or new k 0 ≡ get_or buf k 0
  pub after : (k : ℕ) → p + 3 + len_at buf p ≤ k → get_or new k 0 ≡ get_or buf k 0
  pub shorter : len_at new p ≤ len_at buf p
  pub long : 3 ≤ len_at new p
  pub flags : get_or new (p + 1) 0 < 2 ^ 11

pub put-one : (buf new : List ℕ) (low high : ℕ) (ps : List ℕ) (p : ℕ) → FitsWords buf low high ps → high ≤ length buf → p ∈ ps →
    Rewrites buf new p → (map (clause_in new) ps ≡ with_stored (map (clause_in buf) ps) p (clause_in new p)) × FitsWords new low high ps
put-one buf new low high [] p f hi h s = absurd h
put-one buf new low high (q ∷ ps) p f hi h s =
    ⊎_elim
    (λ e. let eq : p ≡ q = sym e in
    subst (λ (x : ℕ). Rewrites buf new x → (map (clause_in new) (q ∷ ps) ≡ with_stored (map (clause_in buf) (q ∷ ps)) x (clause_in new x))
    × FitsWords new low high (q ∷ ps)) e (here buf new low high q ps f hi) s)
    (λ n. there buf new low high q ps p f hi n (⊎_elim (λ e. absurd (n (sym e))) (λ i. i) h) s
    (put-one buf new (q + 3 + len_at buf q) high ps p f.1 hi (⊎_elim (λ e. absurd (n (sym e))) (λ i. i) h) s))
    (equal_or_not q p)
  where
    here : (buf new : List ℕ) (low high q : ℕ) (ps : List ℕ) → FitsWords buf low high (q ∷ ps) → high ≤ length buf → Rewrites buf new q →
        (map (clause_in new) (q ∷ ps) ≡ with_stored (map (clause_in buf) (q ∷ ps)) q (clause_in new q)) × FitsWords new low high (q ∷ ps)
    here buf new low high q ps f hi s =
        let l = f.0 in
        let up = low-le buf (q + 3 + len_at buf q) high ps f.1 in
        let same : Same buf new (q + 3 + len_at buf q) high = record { words = λ k m g. s.after k m; room = hi; new_room = omega (arith, s.as_long) } in
        let tail = clauses-stay buf new (q + 3 + len_at buf q) high ps f.1 same in (
          ap (λ xs. clause_in new q ∷ xs) tail.0 ∙ sym (clause-here (clause_in buf q) (map (clause_in buf) ps) q (clause_in new q) refl),
          (
            record { begins = l.begins; long = s.long; ends = omega (arith, l.ends, s.shorter); flags = s.flags },
            Fits-lower new
                (q + 3 + len_at buf q) (q + 3 + len_at new q) high ps (omega (arith, s.shorter)) tail.1,
          ),
        )

    there : (buf new : List ℕ) (low high q : ℕ) (ps : List ℕ) (p : ℕ) → FitsWords buf low high (q ∷ ps) → high ≤ length buf → q ≢ p → p ∈ ps →
        Rewrites buf new p → (map (clause_in new) ps ≡ with_stored (map (clause_in buf) ps) p (clause_in new p))
        × FitsWords new (q + 3 + len_at buf q) high ps →
        (map (clause_in new) (q ∷ ps) ≡ with_stored (map (clause_in buf) (q ∷ ps)) p (clause_in new p)) × FitsWords new low high (q ∷ ps)
    there buf new low high q ps p f hi n h s r =
        let l = f.0 in
        let m = lies-at buf (q + 3 + len_at buf q) high ps p f.1 h in
        let same : Same buf new q (q + 3 + len_at buf q) =
        record { words = λ k a b. s.before k (omega (arith, m.begins)); room = omega (arith, l.ends); new_room = omega (arith, s.as_long, l.ends) } in
        let w2 : get_or new (q + 2) 0 ≡ get_or buf (q + 2) 0 = s.before (q + 2) (omega (arith, m.begins)) in
        let w1 : get_or new (q + 1) 0 ≡ get_or buf (q + 1) 0 = s.before (q + 1) (omega (arith, m.begins)) in (
          ap (λ x. x ∷ map (clause_in new) ps) (clause-stays buf new q same) ∙ ap (λ xs. clause_in buf q ∷ xs) r.0
              ∙ sym (clause-later (clause_in buf q) (map (clause_in buf) ps) p (clause_in new p) n),
          (record { begins = l.begins; long = rw w2 l.long; ends = rw w2 l.ends; flags = rw w1 l.flags }, rw w2 r.1),
        )

-- the store after such a write
pub rewritten : (s n : Store) (p : ℕ) → IsSound s → IsClauseRef (stored_clauses s) p → n.places ≡ s.places → Rewrites s.words n.words p →
    HoldsClauses n (length s.words) (with_stored (stored_clauses s) p (clause_in n.words p))
rewritten s n p ok h e r =
    let i = from-place s.words s.places p h in
    let q = put-one s.words n.words 0 (length s.words) s.places p ok.fits (omega arith) i r in
    record {
      sound = record { fits = rw (e, r.as_long) q.1; small = rw r.as_long ok.small };
      words = r.as_long;
      clauses = rw e q.0;
    }

-- a write to the literals of one clause
pub literals-put : (s : Store) (p : ℕ) (ws : List ℕ) → IsSound s → IsClauseRef (stored_clauses s) p → length ws ≡ len_at s.words p →
    HoldsClauses (put_words s (p + 3) ws) (length s.words) (with_literals (stored_clauses s) p ws)
literals-put s p ws ok h e =
    let f = found s p ok h in
    let sp = spliced s.words (p + 3) ws (omega (arith, f.ends)) in
    let n : List ℕ = (put_words s (p + 3) ws).words in
    let w0 : get_or n p 0 ≡ get_or s.words p 0 = sp.before p (omega arith) in
    let w1 : get_or n (p + 1) 0 ≡ get_or s.words (p + 1) 0 = sp.before (p + 1) (omega arith) in
    let w2 : get_or n (p + 2) 0 ≡ get_or s.words (p + 2) 0 = sp.before (p + 2) (omega arith) in
    let r : Rewrites s.words n p = record {
      as_long = sp.as_long;
      before = λ k l. sp.before k (omega arith);
      after = λ k l. sp.after k (omega arith);
      shorter = omega (arith, w2);
      long = omega (arith, w2, f.long);
      flags = rw w1 f.flags;
    } in
    let hold = rewritten s (put_words s (p + 3) ws) p ok h refl r in
    let here : take (len_at s.words p) (drop (p + 3) n) ≡ ws = rw (← e) sp.here in
    let c : clause_in n p ≡ record (stored_at (stored_clauses s) p) { literals = ws } =
    rw (w0, w1, w2, here) (ap (λ (x : StoredClause). record x { literals = ws }) (sym f.is)) in
    record {
      sound = hold.sound;
      words = hold.words;
      clauses = hold.clauses ∙ ap (with_stored (stored_clauses s) p) c ∙ literals-clause (stored_clauses s) p ws;
    }
