-- The clauses after a collection, one by one.
use Rattle.std.proofs.Common.{◌≡◌, ℕ, zero, suc, ◌+◌, ◌<◌, List, [], ◌∷◌, ◌++◌, length, map, take, take_all, get_or, true, false, cond, refl, sym, ap, ◌∙◌, subst, inl, inr, ⊎_elim, arith, add-one}
use Rattle.std.proofs.lemmas.Bool.{cases_Bool}
use Rattle.varisat_theory.specs.promises.Membership.{◌∈◌}
use Rattle.varisat_clause.specs.Headers.{Header}
use Rattle.varisat_clause.specs.Stored.{StoredClause, IsClauseRef, no_clause, stored_at, header_at, literals_at}
use Rattle.varisat_clause.specs.Stores.{Store, clause_in, stored_clauses, IsSound, AddsStored, no_store}
use Rattle.varisat_clause.specs.Databases.{Database, total, size_of, Tracks}
use Rattle.varisat_clause.specs.Collected.{live_of, packed, collected, live_size, IsCollected}
use Rattle.varisat_clause.proofs.StoreWords.{found-at}
use Rattle.varisat_clause.proofs.StoreSound.{place-of}
use Rattle.varisat_clause.proofs.DatabaseTracks.{total-append, long-at}

-- one more clause
pub live-more : (ks : List StoredClause) (k : StoredClause) → k.header.deleted ≡ false → live_of (ks ++ k ∷ []) ≡ live_of ks ++ k ∷ []
live-more [] k e = ap (λ b. cond b [] (k ∷ [])) e
live-more (j ∷ ks) k e =
    ⊎_elim
    (λ d. ap (λ b. cond b (live_of (ks ++ k ∷ [])) (j ∷ live_of (ks ++ k ∷ []))) d ∙ live-more ks k e
    ∙ sym (ap (λ b. cond b (live_of ks) (j ∷ live_of ks) ++ k ∷ []) d))
    (λ d. ap (λ b. cond b (live_of (ks ++ k ∷ [])) (j ∷ live_of (ks ++ k ∷ []))) d ∙ ap (λ xs. j ∷ xs) (live-more ks k e)
    ∙ sym (ap (λ b. cond b (live_of ks) (j ∷ live_of ks) ++ k ∷ []) d))
    (cases_Bool j.header.deleted)

dead-more : (ks : List StoredClause) (k : StoredClause) → k.header.deleted ≡ true → live_of (ks ++ k ∷ []) ≡ live_of ks
dead-more [] k e = ap (λ b. cond b [] (k ∷ [])) e
dead-more (j ∷ ks) k e =
    ⊎_elim
    (λ d. ap (λ b. cond b (live_of (ks ++ k ∷ [])) (j ∷ live_of (ks ++ k ∷ []))) d ∙ dead-more ks k e ∙ sym (ap (λ b. cond b (live_of ks) (j ∷ live_of ks)) d))
    (λ d. ap (λ b. cond b (live_of (ks ++ k ∷ [])) (j ∷ live_of (ks ++ k ∷ []))) d ∙ ap (λ xs. j ∷ xs) (dead-more ks k e)
    ∙ sym (ap (λ b. cond b (live_of ks) (j ∷ live_of ks)) d))
    (cases_Bool j.header.deleted)

packed-more : (p : ℕ) (ks : List StoredClause) (k : StoredClause) (q : ℕ) → q ≡ p + total size_of ks →
    packed p (ks ++ k ∷ []) ≡ packed p ks ++ record { place = q; header = record k.header { mark = false }; literals = k.literals } ∷ []
packed-more p [] k q e = let f : p ≡ q = omega (arith, e) in
    ap (λ (x : ℕ). record { place = x; header = record k.header { mark = false }; literals = k.literals } ∷ []) f
packed-more p (j ∷ ks) k q e = ap (λ xs. record { place = p; header = record j.header { mark = false }; literals = j.literals } ∷ xs)
    (packed-more (p + size_of j) ks k q (omega (arith, e)))

-- how far the copy has come
pub record IsCopied (n : Store) (d : Database) (ks : List StoredClause) : Type 0 where
  pub tracks : Tracks d n
  pub words : length n.words ≡ live_size ks
  pub clauses : stored_clauses n ≡ collected ks

pub copied-none : (n : Store) (d : Database) → n ≡ no_store → Tracks d n → IsCopied n d []
copied-none n d e t = record { tracks = t; words = ap (λ (s : Store). length s.words) e; clauses = ap stored_clauses e }

pub copied-live : (n m : Store) (d e : Database) (ks : List StoredClause) (k : StoredClause) → IsCopied n d ks → k.header.deleted ≡ false →
    AddsStored n m (record { place = length n.words; header = record k.header { mark = false }; literals = k.literals }) → Tracks e m →
    IsCopied m e (ks ++ k ∷ [])
copied-live n m d e ks k c live a t =
    let l = live-more ks k live in
    record {
      tracks = t;
      words = let x = ap (total size_of) l in let y = total-append size_of (live_of ks) k in omega (arith, x, y, a.words, c.words);
      clauses = a.clauses.0 ∙ ap (λ xs.
          xs ++ record { place = length n.words; header = record k.header { mark = false }; literals = k.literals } ∷ []) c.clauses
          ∙ sym (packed-more 0 (live_of ks) k (length n.words) (omega (arith, c.words))) ∙ sym (ap (packed 0) l);
    }

pub copied-dead : (n m : Store) (d e : Database) (ks : List StoredClause) (k : StoredClause) → IsCopied n d ks → k.header.deleted ≡ true → m ≡ n →
    Tracks e m → IsCopied m e (ks ++ k ∷ [])
copied-dead n m d e ks k c dead q t =
    let l = dead-more ks k dead in
    record {
      tracks = t;
      words = ap (λ (s : Store). length s.words) q ∙ c.words ∙ sym (ap (total size_of) l);
      clauses = ap stored_clauses q ∙ c.clauses ∙ sym (ap (packed 0) l);
    }

-- the first clauses and the next one
pub take-next : {X : Type 0} (xs : List X) (i : ℕ) (d : X) → i < length xs → take (i + 1) xs ≡ take i xs ++ get_or xs i d ∷ []
take-next {X} xs i d h = subst (λ (n : ℕ). take n xs ≡ take i xs ++ get_or xs i d ∷ []) (sym (add-one i)) (go xs i h)
  where
    go : (ys : List X) (k : ℕ) → k < length ys → take (suc k) ys ≡ take k ys ++ get_or ys k d ∷ []
    go [] k l = absurd (omega arith)
    go (y ∷ ys) zero l = refl
    go (y ∷ ys) (suc k) l = ap (λ zs. y ∷ zs) (go ys k (omega arith))

pub length-places : (ws ps : List ℕ) → length (map (clause_in ws) ps) ≡ length ps
length-places ws [] = refl
length-places ws (p ∷ ps) = ap suc (length-places ws ps)

in-list : (ps : List ℕ) (i : ℕ) → i < length ps → get_or ps i 0 ∈ ps
in-list [] i h = absurd (omega arith)
in-list (p ∷ ps) zero h = inl refl
in-list (p ∷ ps) (suc i) h = inr (in-list ps i (omega arith))

-- the clause of an index by its place
pub clause-of-index : (s : Store) (i p : ℕ) → i < length s.places → p ≡ get_or s.places i 0 →
    get_or (stored_clauses s) i no_clause ≡ stored_at (stored_clauses s) p
clause-of-index s i p h e =
    place-of s.words s.places i h ∙ ap (clause_in s.words) (sym e)
    ∙ sym (found-at s.words s.places p (subst (λ (x : ℕ). x ∈ s.places) (sym e) (in-list s.places i h)))

pub copied-next : (s n m : Store) (d e : Database) (i p : ℕ) → i < length s.places → p ≡ get_or s.places i 0 →
    IsCopied n d (take i (stored_clauses s)) →
    ((header_at (stored_clauses s) p).deleted ≡ false → AddsStored n m
    (record {
      place = length n.words;
      header = record (header_at (stored_clauses s) p) { mark = false };
      literals =
          literals_at (stored_clauses s) p;
    })) → ((header_at (stored_clauses s) p).deleted ≡ true → m ≡ n) → Tracks e m →
    IsCopied m e (take (i + 1) (stored_clauses s))
copied-next s n m d e i p h q c live dead t =
    let k : StoredClause = stored_at (stored_clauses s) p in
    let l = length-places s.words s.places in
    let f : take (i + 1) (stored_clauses s) ≡ take i (stored_clauses s) ++ k ∷ [] = take-next (stored_clauses s) i no_clause (omega (arith, h, l))
    ∙ ap (λ (x : StoredClause). take i (stored_clauses s) ++ x ∷ []) (clause-of-index s i p h q) in
    subst (IsCopied m e) (sym f) (⊎_elim
    (λ g. copied-dead n m d e (take i (stored_clauses s)) k c g (dead g) t)
    (λ g. copied-live n m d e (take i (stored_clauses s)) k c g (live g) t)
    (cases_Bool k.header.deleted))

pub copied-all : (s n : Store) (d : Database) (i : ℕ) → i ≡ length s.places → IsCopied n d (take i (stored_clauses s)) → IsCollected n d (stored_clauses s)
copied-all s n d i e c =
    let l = length-places s.words s.places in
    let f : take i (stored_clauses s) ≡ stored_clauses s = take_all i (stored_clauses s) (omega (arith, e, l)) in
    let g = subst (IsCopied n d) f c in
    record { store = record { sound = g.tracks.sound; words = g.words; clauses = g.clauses }; tracks = g.tracks }

-- the i-th clause after the collection is the i-th that was not deleted
pub packed-length : (p : ℕ) (ks : List StoredClause) → length (packed p ks) ≡ length ks
packed-length p [] = refl
packed-length p (k ∷ ks) = ap suc (packed-length (p + size_of k) ks)

pub packed-header : (p : ℕ) (ks : List StoredClause) (i : ℕ) →
    (get_or (packed p ks) i no_clause).header ≡ record ((get_or ks i no_clause).header) { mark = false }
packed-header p [] i = refl
packed-header p (k ∷ ks) zero = refl
packed-header p (k ∷ ks) (suc i) = packed-header (p + size_of k) ks i

pub packed-literals : (p : ℕ) (ks : List StoredClause) (i : ℕ) → (get_or (packed p ks) i no_clause).literals ≡ (get_or ks i no_clause).literals
packed-literals p [] i = refl
packed-literals p (k ∷ ks) zero = refl
packed-literals p (k ∷ ks) (suc i) = packed-literals (p + size_of k) ks i

-- a copy that was added
pub copied-adds : (s n m : Store) (p q : ℕ) (h : Header) (c : List ℕ) → IsSound s → IsClauseRef (stored_clauses s) p →
    h ≡ record (header_at (stored_clauses s) p) { mark = false } → c ≡ literals_at (stored_clauses s) p →
    AddsStored n m (record { place = q; header = record h { len = length c }; literals = c }) →
    AddsStored n m (record {
      place = length n.words;
      header = record (header_at (stored_clauses s) p) { mark = false };
      literals =
          literals_at (stored_clauses s) p;
    })
copied-adds s n m p q h c ok at eh ec a =
    let k : StoredClause = stored_at (stored_clauses s) p in
    let el : length c ≡ k.header.len = ap length ec ∙ sym ((long-at s p ok at).1) in
    let eg : record h { len = length c } ≡ record k.header { mark = false } = ap (λ (x : Header). record x { len = length c }) eh
    ∙ ap (λ (x : ℕ). record k.header { mark = false; len = x }) el in
    let a1 = subst (λ (x : ℕ). AddsStored n m (record { place = x; header = record h { len = length c }; literals = c })) a.place a in
    let a2 = subst (λ (x : Header). AddsStored n m (record { place = length n.words; header = x; literals = c })) eg a1 in
    subst (λ (x : List ℕ). AddsStored n m (record { place = length n.words; header = record k.header { mark = false }; literals = x })) ec a2
