-- The database fits the store: what each change of the clauses does to the counts, the garbage and the lists.
use Rattle.std.proofs.Common.{◌≡◌, ℕ, ◌+◌, ◌<◌, ◌≤◌, ◌^◌, List, [], ◌∷◌, ◌++◌, length, map, take, Bool, true, false, cond, refl, sym, ap, ◌∙◌, subst, ◌⊎◌, inl, inr, ⊎_elim, arith}
use Rattle.std.proofs.lemmas.Bool.{cases_Bool}
use Rattle.varisat_theory.specs.promises.Membership.{◌∈◌}
use Rattle.varisat_theory.proofs.clauses.Members.{equal_or_not, ∈-append_left, ∈-append_right, ∈-append_cases}
use Rattle.varisat_clause.specs.declared.header.Tier.{Tier}
use Rattle.varisat_clause.specs.declared.header.Tier.TheVariants.{Irred, Core, Mid, Local}
use Rattle.varisat_clause.specs.declared.db.TierCounts.{TierCounts}
use Rattle.varisat_clause.specs.Tiers.{is_tier}
use Rattle.varisat_clause.specs.Headers.{Header}
use Rattle.varisat_clause.specs.Stored.{StoredClause, IsClauseRef, stored_at, header_at, literals_at, with_stored, with_literals, with_header, shortened}
use Rattle.varisat_clause.specs.Stores.{Store, len_at, clause_in, stored_clauses, FitsWords, IsSound, HoldsClauses, AddsStored, no_store}
use Rattle.varisat_clause.specs.Databases.{count_of, raised, lowered, ListsByTier, tier_list, with_tier_list, pushed, Database, no_database, with_added, with_moved, with_deleted, is_live, is_live_in, total, size_of, live_count, garbage_of, Tracks}
use Rattle.varisat_clause.proofs.StoredClauses.{stored-here, stored-later, stored-∈, clause-here, clause-later, clause-cases, clause-place, place-later, place-more, place-last, from-append, literals-clause}
use Rattle.varisat_clause.proofs.StoreSound.{are-long}

-- counts and lists of each tier
pub count-raised : (t u : Tier) (c : TierCounts) → count_of u (raised t c) ≡ count_of u c + cond (is_tier u t) 1 0
count-raised Irred Irred c = refl
count-raised Core Core c = refl
count-raised Mid Mid c = refl
count-raised Local Local c = refl
count-raised t u c = omega arith

pub count-lowered : (t u : Tier) (c : TierCounts) → 0 < count_of t c → count_of u (lowered t c) + cond (is_tier u t) 1 0 ≡ count_of u c
count-lowered Irred Irred c h = omega arith
count-lowered Core Core c h = omega arith
count-lowered Mid Mid c h = omega arith
count-lowered Local Local c h = omega arith
count-lowered t u c h = omega arith

pub list-with : (t u : Tier) (ps : List ℕ) (l : ListsByTier) → tier_list u (with_tier_list t ps l) ≡ cond (is_tier u t) ps (tier_list u l)
list-with Irred Irred ps l = refl
list-with Core Core ps l = refl
list-with Mid Mid ps l = refl
list-with Local Local ps l = refl
list-with t u ps l = refl

pub tier-self : (t : Tier) → is_tier t t ≡ true
tier-self Irred = refl
tier-self Core = refl
tier-self Mid = refl
tier-self Local = refl

pub same-tier : (t u : Tier) → is_tier t u ≡ true → t ≡ u
same-tier Irred Irred e = refl
same-tier Core Core e = refl
same-tier Mid Mid e = refl
same-tier Local Local e = refl
same-tier t u e = absurd (cc)

-- what stands in a list after a push
pub pushed-cases : (t u : Tier) (p q : ℕ) (l : ListsByTier) → q ∈ tier_list u (pushed t p l) → (q ∈ tier_list u l) ⊎ (q ≡ p)
pushed-cases t u p q l h =
    ⊎_elim
    (λ e. let g : u ≡ t = same-tier u t e in
    let i : q ∈ (tier_list t l ++ p ∷ []) = subst (λ (xs : List ℕ). q ∈ xs)
    (list-with t u (tier_list t l ++ p ∷ []) l ∙ ap (λ b. cond b (tier_list t l ++ p ∷ []) (tier_list u l)) e) h in
    ⊎_elim (λ j. inl (subst (λ (x : Tier). q ∈ tier_list x l) (sym g) j)) (λ j. inr (⊎_elim (λ k. k) (λ k. absurd k) j))
    (∈-append_cases q (tier_list t l) (p ∷ []) i))
    (λ e. inl (subst (λ (xs : List ℕ). q ∈ xs) (list-with t u (tier_list t l ++ p ∷ []) l ∙ ap (λ b. cond b (tier_list t l ++ p ∷ []) (tier_list u l)) e) h))
    (cases_Bool (is_tier u t))

pub pushed-old : (t u : Tier) (p q : ℕ) (l : ListsByTier) → q ∈ tier_list u l → q ∈ tier_list u (pushed t p l)
pushed-old t u p q l h =
    ⊎_elim
    (λ e. let g : u ≡ t = same-tier u t e in
    subst (λ (xs : List ℕ). q ∈ xs) (sym (list-with t u (tier_list t l ++ p ∷ []) l ∙ ap (λ b. cond b (tier_list t l ++ p ∷ []) (tier_list u l)) e))
    (∈-append_left q (tier_list t l) (p ∷ []) (subst (λ (x : Tier). q ∈ tier_list x l) g h)))
    (λ e. subst (λ (xs : List ℕ). q ∈ xs) (sym (list-with t u (tier_list t l ++ p ∷ []) l ∙ ap (λ b. cond b (tier_list t l ++ p ∷ []) (tier_list u l)) e)) h)
    (cases_Bool (is_tier u t))

pub pushed-new : (t : Tier) (p : ℕ) (l : ListsByTier) → p ∈ tier_list t (pushed t p l)
pushed-new t p l =
    subst (λ (xs : List ℕ). p ∈ xs)
    (sym (list-with t t (tier_list t l ++ p ∷ []) l ∙ ap (λ b. cond b (tier_list t l ++ p ∷ []) (tier_list t l)) (tier-self t)))
    (∈-append_right p (tier_list t l) (p ∷ []) (inl refl))

-- sums over the clauses
pub total-append : (w : StoredClause → ℕ) (ks : List StoredClause) (k : StoredClause) → total w (ks ++ k ∷ []) ≡ total w ks + w k
total-append w [] k = omega arith
total-append w (j ∷ ks) k = let r = total-append w ks k in omega (arith, r)

pub total-clause : (w : StoredClause → ℕ) (ks : List StoredClause) (p : ℕ) (j : StoredClause) → IsClauseRef ks p →
    total w (with_stored ks p j) + w (stored_at ks p) ≡ total w ks + w j
total-clause w [] p j (k, h, e) = absurd h
total-clause w (k ∷ ks) p j h =
    ⊎_elim
    (λ e. let a = ap (total w) (clause-here k ks p j e) in let b = ap w (stored-here k ks p e) in omega (arith, a, b))
    (λ n. let a = ap (total w) (clause-later k ks p j n) in let b = ap w (stored-later k ks p n) in
    let r = total-clause w ks p j (place-later k ks p h n) in omega (arith, a, b, r))
    (equal_or_not k.place p)

pub total-most : (w v : StoredClause → ℕ) (ks : List StoredClause) → ((k : StoredClause) → k ∈ ks → w k ≤ v k) → total w ks ≤ total v ks
total-most w v [] h = omega arith
total-most w v (k ∷ ks) h = let a = h k (inl refl) in let b = total-most w v ks (λ j i. h j (inr i)) in omega (arith, a, b)

pub total-one : (w : StoredClause → ℕ) (ks : List StoredClause) (k : StoredClause) → k ∈ ks → w k ≤ total w ks
total-one w [] k h = absurd h
total-one w (j ∷ ks) k (inl e) = let a = ap w e in omega (arith, a)
total-one w (j ∷ ks) k (inr h) = let r = total-one w ks k h in omega (arith, r)

-- the clauses take no more words than there are
sizes-fit : (ws : List ℕ) (low high : ℕ) (ps : List ℕ) → FitsWords ws low high ps → low + total (λ k. 3 + k.header.len) (map (clause_in ws) ps) ≤ high
sizes-fit ws low high [] f = omega (arith, f)
sizes-fit ws low high (p ∷ ps) f = let l = f.0 in let r = sizes-fit ws (p + 3 + len_at ws p) high ps f.1 in omega (arith, l.begins, r)

pub sizes-within : (s : Store) → IsSound s → total size_of (stored_clauses s) ≤ length s.words
sizes-within s ok =
    let a = sizes-fit s.words 0 (length s.words) s.places ok.fits in
    let long = are-long s ok in
    let b = total-most size_of (λ k. 3 + k.header.len) (stored_clauses s) (λ k h. let l = long k h in omega (arith, l.1)) in
    omega (arith, a, b)

-- the count of a tier and the garbage are small
pub count-small : (t : Tier) (d : Database) (s : Store) → Tracks d s → count_of t d.counts < 2 ^ 32
count-small t d s k =
    let a = sizes-within s k.sound in
    let b = total-most (λ j. cond (is_live_in t j) 1 0) size_of (stored_clauses s) (λ j h. most (is_live_in t j) (length j.literals)) in
    omega (arith, a, b, k.counts t, k.sound.small)
  where
    most : (b : Bool) (n : ℕ) → cond b 1 0 ≤ 3 + n
    most true n = omega arith
    most false n = omega arith

pub garbage-small : (d : Database) (s : Store) → Tracks d s → d.garbage ≤ length s.words
garbage-small d s k =
    let a = sizes-within s k.sound in
    let b = total-most (λ j. cond j.header.deleted (size_of j) 0) size_of (stored_clauses s) (λ j h. most j.header.deleted (size_of j)) in
    omega (arith, a, b, k.garbage)
  where
    most : (b : Bool) (n : ℕ) → cond b n 0 ≤ n
    most true n = omega arith
    most false n = omega arith

-- a clause that is not deleted is counted
pub counted : (d : Database) (s : Store) (p : ℕ) → Tracks d s → IsClauseRef (stored_clauses s) p → (header_at (stored_clauses s) p).deleted ≡ false →
    0 < count_of (header_at (stored_clauses s) p).tier d.counts
counted d s p k h live =
    let j : StoredClause = stored_at (stored_clauses s) p in
    let a = total-one (λ x. cond (is_live_in j.header.tier x) 1 0) (stored_clauses s) j (stored-∈ (stored_clauses s) p h) in
    let b : is_live_in j.header.tier j ≡ true = rw (live, tier-self j.header.tier) refl in
    let c = ap {B = ℕ} (λ x. cond x 1 0) b in
    omega (arith, a, c, k.counts j.header.tier)

-- how a database has to change where a clause j comes in place of k
pub record Adjusts (d e : Database) (p : ℕ) (k j : StoredClause) : Type 0 where
  pub counts : (t : Tier) → count_of t e.counts + cond (is_live_in t k) 1 0 ≡ count_of t d.counts + cond (is_live_in t j) 1 0
  pub garbage : e.garbage + cond k.header.deleted (size_of k) 0 ≡ d.garbage + cond j.header.deleted (size_of j) 0
  pub keeps : (t : Tier) (q : ℕ) → q ∈ tier_list t d.lists → q ∈ tier_list t e.lists
  pub known : (t : Tier) (q : ℕ) → q ∈ tier_list t e.lists → (q ∈ tier_list t d.lists) ⊎ (q ≡ p)
  pub listed : is_live j ≡ true → p ∈ tier_list j.header.tier e.lists

pub tracks-changed : (d e : Database) (s n : Store) (size p : ℕ) (j : StoredClause) → Tracks d s → IsClauseRef (stored_clauses s) p → j.place ≡ p →
    HoldsClauses n size (with_stored (stored_clauses s) p j) → Adjusts d e p (stored_at (stored_clauses s) p) j → Tracks e n
tracks-changed d e s n size p j t h q o a = record {
  sound = o.sound;
  counts = λ u.
      let x = total-clause (λ x. cond (is_live_in u x) 1 0) (stored_clauses s) p j h in
      let y = ap (live_count u) o.clauses in
      omega (arith, x, y, a.counts u, t.counts u);
  garbage =
      let x = total-clause (λ x. cond x.header.deleted (size_of x) 0) (stored_clauses s) p j h in
      let y = ap garbage_of o.clauses in
      omega (arith, x, y, a.garbage, t.garbage);
  listed = λ k i live.
      let i2 : k ∈ with_stored (stored_clauses s) p j = subst (λ xs. k ∈ xs) o.clauses i in
      ⊎_elim
      (λ f. subst (λ (x : StoredClause). x.place ∈ tier_list x.header.tier e.lists) (sym f)
      (subst (λ (x : ℕ). x ∈ tier_list j.header.tier e.lists) (sym q) (a.listed (subst (λ (x : StoredClause). is_live x ≡ true) f live))))
      (λ m. a.keeps k.header.tier k.place (t.listed k m live))
      (clause-cases (stored_clauses s) p j k i2);
  known = λ u x i.
      let old : IsClauseRef (stored_clauses s) x = ⊎_elim (λ m. t.known u x m) (λ f. subst (IsClauseRef (stored_clauses s)) (sym f) h) (a.known u x i) in
      subst (λ xs. IsClauseRef xs x) (sym o.clauses) (clause-place (stored_clauses s) p x j q old);
}

-- an empty store
pub tracks-none : Tracks no_database no_store
tracks-none = record {
  sound = record { fits = omega arith; small = lt };
  counts = none;
  garbage = refl;
  listed = λ k h. absurd h;
  known = λ t p h. absurd (nowhere t p h);
}
  where
    lt : 0 < 2 ^ 32
    lt = omega arith

    none : (t : Tier) → count_of t no_database.counts ≡ 0
    none Irred = refl
    none Core = refl
    none Mid = refl
    none Local = refl

    nowhere : (t : Tier) (p : ℕ) → p ∈ tier_list t no_database.lists → ⊥
    nowhere Irred p h = h
    nowhere Core p h = h
    nowhere Mid p h = h
    nowhere Local p h = h

-- a clause that is not deleted was added
pub tracks-added : (d : Database) (s n : Store) (k : StoredClause) → Tracks d s → AddsStored s n k → k.header.deleted ≡ false →
    Tracks (with_added k.header.tier k.place d) n
tracks-added d s n k t a live = record {
  sound = a.sound;
  counts = λ u.
      let x = count-raised k.header.tier u d.counts in
      let y = ap (live_count u) a.clauses.0 in
      let z = total-append (λ x. cond (is_live_in u x) 1 0) (stored_clauses s) k in
      let w : is_live_in u k ≡ is_tier u k.header.tier = rw live refl in
      let v = ap {B = ℕ} (λ b. cond b 1 0) w in
      omega (arith, x, y, z, v, t.counts u);
  garbage =
      let y = ap garbage_of a.clauses.0 in
      let z = total-append (λ x. cond x.header.deleted (size_of x) 0) (stored_clauses s) k in
      let v = ap (λ b. cond b (size_of k) 0) live in
      omega (arith, y, z, v, t.garbage);
  listed = λ j i l.
      ⊎_elim
      (λ m. pushed-old k.header.tier j.header.tier k.place j.place d.lists (t.listed j m l))
      (λ e. subst (λ (x : StoredClause). x.place ∈ tier_list x.header.tier (pushed k.header.tier k.place d.lists)) (sym e)
      (pushed-new k.header.tier k.place d.lists))
      (from-append (stored_clauses s) k j (subst (λ xs. j ∈ xs) a.clauses.0 i));
  known = λ u x i.
      subst (λ xs. IsClauseRef xs x) (sym a.clauses.0) (⊎_elim
      (λ m. place-more (stored_clauses s) k x (t.known u x m))
      (λ e. subst (IsClauseRef (stored_clauses s ++ k ∷ [])) (sym e) (place-last (stored_clauses s) k))
      (pushed-cases k.header.tier u k.place x d.lists i));
}

-- a clause that is not deleted goes to another tier
pub adjusts-moved : (d : Database) (p : ℕ) (k : StoredClause) (to : Tier) → k.header.deleted ≡ false → 0 < count_of k.header.tier d.counts →
    Adjusts d (with_moved p k.header.tier to d) p k (record k { header = record k.header { tier = to } })
adjusts-moved d p k to live some = record {
  counts = λ t.
      let a = count-lowered k.header.tier t d.counts some in
      let b = count-raised to t (lowered k.header.tier d.counts) in
      let c : is_live_in t k ≡ is_tier t k.header.tier = rw live refl in
      let e : is_live_in t (record k { header = record k.header { tier = to } }) ≡ is_tier t to = rw live refl in
      let f = ap {B = ℕ} (λ x. cond x 1 0) c in
      let g = ap {B = ℕ} (λ x. cond x 1 0) e in
      omega (arith, a, b, f, g);
  garbage = refl;
  keeps = λ t q i. pushed-old to t p q d.lists i;
  known = λ t q i. pushed-cases to t p q d.lists i;
  listed = λ l. pushed-new to p d.lists;
}

-- a clause is deleted
pub adjusts-deleted : (d : Database) (p : ℕ) (k : StoredClause) → k.header.deleted ≡ false → 0 < count_of k.header.tier d.counts →
    Adjusts d (with_deleted k.header.tier (length k.literals) d) p k (record k { header = record k.header { deleted = true } })
adjusts-deleted d p k live some = record {
  counts = λ t.
      let a = count-lowered k.header.tier t d.counts some in
      let c : is_live_in t k ≡ is_tier t k.header.tier = rw live refl in
      let f = ap {B = ℕ} (λ x. cond x 1 0) c in
      omega (arith, a, f);
  garbage = let v = ap (λ b. cond b (size_of k) 0) live in omega (arith, v);
  keeps = λ t q i. i;
  known = λ t q i. inl i;
  listed = λ l. absurd (cc);
}

same-garbage : (a b : Bool) (m n : ℕ) → b ≡ a → (b ≡ true → n ≡ m) → cond a m 0 ≡ cond b n 0
same-garbage true true m n e h = sym (h refl)
same-garbage true false m n e h = absurd (cc)
same-garbage false true m n e h = absurd (cc)
same-garbage false false m n e h = refl

-- a clause changes, but not its tier nor whether it is deleted, and a deleted one not in length
pub adjusts-kept : (d : Database) (s : Store) (p : ℕ) (j : StoredClause) → Tracks d s → IsClauseRef (stored_clauses s) p →
    (stored_at (stored_clauses s) p).place ≡ p → j.header.tier ≡ (header_at (stored_clauses s) p).tier →
    j.header.deleted ≡ (header_at (stored_clauses s) p).deleted →
    (j.header.deleted ≡ true → length j.literals ≡ length (literals_at (stored_clauses s) p)) → Adjusts d d p (stored_at (stored_clauses s) p) j
adjusts-kept d s p j t h q et ed el =
    let k : StoredClause = stored_at (stored_clauses s) p in
    record {
      counts = λ u. ap (λ (x : ℕ). count_of u d.counts + x) (rw (et, ed) refl);
      garbage = ap (λ (x : ℕ). d.garbage + x) (same-garbage k.header.deleted j.header.deleted (size_of k) (size_of j) ed (λ e. ap (λ (n : ℕ). 3 + n) (el e)));
      keeps = λ u x i. i;
      known = λ u x i. inl i;
      listed = λ l. subst (λ (x : Tier). p ∈ tier_list x d.lists) (sym et)
          (subst (λ (x : ℕ). x ∈ tier_list k.header.tier d.lists) q (t.listed k (stored-∈ (stored_clauses s) p h) (rw (← ed) l)));
    }

-- the clause at a place stands there, and is as long as its header says
pub place-is : (ks : List StoredClause) (p : ℕ) → IsClauseRef ks p → (stored_at ks p).place ≡ p
place-is [] p (k, h, e) = absurd h
place-is (k ∷ ks) p h =
    ⊎_elim
    (λ e. ap (λ (x : StoredClause). x.place) (stored-here k ks p e) ∙ e)
    (λ n. ap (λ (x : StoredClause). x.place) (stored-later k ks p n) ∙ place-is ks p (place-later k ks p h n))
    (equal_or_not k.place p)

pub long-at : (s : Store) (p : ℕ) → IsSound s → IsClauseRef (stored_clauses s) p → (3 ≤ length (literals_at (stored_clauses s) p))
    × ((header_at (stored_clauses s) p).len ≡ length (literals_at (stored_clauses s) p))
long-at s p ok h = are-long s ok (stored_at (stored_clauses s) p) (stored-∈ (stored_clauses s) p h)

-- the clause itself in its own place changes nothing
pub clause-self : (ks : List StoredClause) (p : ℕ) → with_stored ks p (stored_at ks p) ≡ ks
clause-self [] p = refl
clause-self (k ∷ ks) p =
    ⊎_elim
    (λ e. clause-here k ks p _ e ∙ ap (λ (x : StoredClause). x ∷ ks) (stored-here k ks p e))
    (λ n. clause-later k ks p _ n ∙ ap (λ xs. k ∷ xs) (ap (with_stored ks p) (stored-later k ks p n) ∙ clause-self ks p))
    (equal_or_not k.place p)

pub header-self : (ks : List StoredClause) (p : ℕ) (h : Header) → h ≡ header_at ks p → with_header ks p h ≡ ks
header-self ks p h e = ap (λ (x : Header). with_stored ks p (record (stored_at ks p) { header = x })) e ∙ clause-self ks p

-- what the calls of the database leave
pub tracks-deleted : (d e : Database) (s n : Store) (p : ℕ) (h : Header) → Tracks d s → IsClauseRef (stored_clauses s) p →
    (header_at (stored_clauses s) p).deleted ≡ false → h ≡ header_at (stored_clauses s) p → e ≡ with_deleted h.tier h.len d →
    HoldsClauses n (length s.words) (with_header (stored_clauses s) p (record h { deleted = true })) → Tracks e n
tracks-deleted d e s n p h t at live eh ee o =
    let k : StoredClause = stored_at (stored_clauses s) p in
    let j : StoredClause = record k { header = record k.header { deleted = true } } in
    let w : with_header (stored_clauses s) p (record h { deleted = true }) ≡ with_stored (stored_clauses s) p j =
    ap (λ (x : Header). with_header (stored_clauses s) p (record x { deleted = true })) eh in
    let f : e ≡ with_deleted k.header.tier (length k.literals) d = ee ∙ ap (λ (x : Header). with_deleted x.tier x.len d) eh
    ∙ ap (λ (x : ℕ). with_deleted k.header.tier x d) ((long-at s p t.sound at).1) in
    tracks-changed d e s n (length s.words) p j t at (place-is (stored_clauses s) p at) (record { sound = o.sound; words = o.words; clauses = o.clauses ∙ w })
    (subst (λ (x : Database). Adjusts d x p k j) (sym f) (adjusts-deleted d p k live (counted d s p t at live)))

pub tracks-moved : (d e : Database) (s n : Store) (p : ℕ) (h : Header) (to : Tier) → Tracks d s → IsClauseRef (stored_clauses s) p →
    (header_at (stored_clauses s) p).deleted ≡ false → h ≡ header_at (stored_clauses s) p → e ≡ with_moved p h.tier to d →
    HoldsClauses n (length s.words) (with_header (stored_clauses s) p (record h { tier = to })) → Tracks e n
tracks-moved d e s n p h to t at live eh ee o =
    let k : StoredClause = stored_at (stored_clauses s) p in
    let j : StoredClause = record k { header = record k.header { tier = to } } in
    let w : with_header (stored_clauses s) p (record h { tier = to }) ≡ with_stored (stored_clauses s) p j =
    ap (λ (x : Header). with_header (stored_clauses s) p (record x { tier = to })) eh in
    let f : e ≡ with_moved p k.header.tier to d = ee ∙ ap (λ (x : Header). with_moved p x.tier to d) eh in
    tracks-changed d e s n (length s.words) p j t at (place-is (stored_clauses s) p at) (record { sound = o.sound; words = o.words; clauses = o.clauses ∙ w })
    (subst (λ (x : Database). Adjusts d x p k j) (sym f) (adjusts-moved d p k to live (counted d s p t at live)))

-- other literals of a clause, a header of the same tier, or fewer literals
pub tracks-literals : (d : Database) (s n : Store) (p : ℕ) (c : List ℕ) → Tracks d s → IsClauseRef (stored_clauses s) p →
    length c ≡ length (literals_at (stored_clauses s) p) → HoldsClauses n (length s.words) (with_literals (stored_clauses s) p c) → Tracks d n
tracks-literals d s n p c t at el o =
    let k : StoredClause = stored_at (stored_clauses s) p in
    let j : StoredClause = record k { literals = c } in
    tracks-changed d d s n (length s.words) p j t at (place-is (stored_clauses s) p at)
    (record { sound = o.sound; words = o.words; clauses = o.clauses ∙ sym (literals-clause (stored_clauses s) p c) })
    (adjusts-kept d s p j t at (place-is (stored_clauses s) p at) refl refl (λ e. el))

pub tracks-header : (d : Database) (s n : Store) (p : ℕ) (h : Header) → Tracks d s → IsClauseRef (stored_clauses s) p →
    h.tier ≡ (header_at (stored_clauses s) p).tier → h.deleted ≡ (header_at (stored_clauses s) p).deleted →
    HoldsClauses n (length s.words) (with_header (stored_clauses s) p h) → Tracks d n
tracks-header d s n p h t at et ed o =
    let k : StoredClause = stored_at (stored_clauses s) p in
    tracks-changed d d s n (length s.words) p (record k { header = h }) t at (place-is (stored_clauses s) p at) o
    (adjusts-kept d s p (record k { header = h }) t at (place-is (stored_clauses s) p at) et ed (λ e. refl))

pub tracks-shortened : (d : Database) (s n : Store) (p c : ℕ) → Tracks d s → IsClauseRef (stored_clauses s) p →
    (header_at (stored_clauses s) p).deleted ≡ false → HoldsClauses n (length s.words) (shortened (stored_clauses s) p c) → Tracks d n
tracks-shortened d s n p c t at live o =
    let k : StoredClause = stored_at (stored_clauses s) p in
    let j : StoredClause = record { place = p; header = record k.header { len = c }; literals = take c k.literals } in
    tracks-changed d d s n (length s.words) p j t at refl o
    (adjusts-kept d s p j t at (place-is (stored_clauses s) p at) refl refl (λ e. absurd (cc)))
