-- The stored clauses by their places.
use Rattle.std.proofs.Common.{◌≡◌, ◌≢◌, ℕ, suc, ◌<◌, false, nat_eq, List, [], ◌∷◌, ◌++◌, length, ◌⊎◌, inl, inr, ⊎_elim, refl, sym, ap, ◌∙◌, subst, arith}
use Rattle.std.specs.Prelude.{cond}
use Rattle.std.proofs.lemmas.Bool.{eq-eqb}
use Rattle.varisat_theory.specs.promises.Membership.{◌∈◌, SameSet}
use Rattle.varisat_theory.specs.promises.Literals.{Clause}
use Rattle.varisat_theory.proofs.clauses.Members.{equal_or_not}
use Rattle.varisat_clause.specs.Stored.{StoredClause, literals_of, IsClauseRef, stored_at, literals_at, with_literals, with_stored, AreRising, AreReordered}

pub same-self : {X : Type 0} (xs : List X) → SameSet xs xs
same-self xs = ((λ x i. i), (λ x i. i))

pub same-trans : {X : Type 0} (xs ys zs : List X) → SameSet xs ys → SameSet ys zs → SameSet xs zs
same-trans xs ys zs a b = ((λ x i. b.0 x (a.0 x i)), (λ x i. a.1 x (b.1 x i)))

pub is-other : (a b : ℕ) → a ≢ b → nat_eq a b ≡ false
is-other a b n = grind arith

pub stored-here : (k : StoredClause) (ks : List StoredClause) (p : ℕ) → k.place ≡ p → stored_at (k ∷ ks) p ≡ k
stored-here k ks p e = ap (λ b. cond b k (stored_at ks p)) (eq-eqb k.place p e)

pub stored-later : (k : StoredClause) (ks : List StoredClause) (p : ℕ) → k.place ≢ p → stored_at (k ∷ ks) p ≡ stored_at ks p
stored-later k ks p n = ap (λ b. cond b k (stored_at ks p)) (is-other k.place p n)

pub with-here : (k : StoredClause) (ks : List StoredClause) (p : ℕ) (c : Clause) → k.place ≡ p → with_literals (k ∷ ks) p c ≡ record k { literals = c } ∷ ks
with-here k ks p c e = ap (λ b. cond b (record k { literals = c } ∷ ks) (k ∷ with_literals ks p c)) (eq-eqb k.place p e)

pub with-later : (k : StoredClause) (ks : List StoredClause) (p : ℕ) (c : Clause) → k.place ≢ p → with_literals (k ∷ ks) p c ≡ k ∷ with_literals ks p c
with-later k ks p c n = ap (λ b. cond b (record k { literals = c } ∷ ks) (k ∷ with_literals ks p c)) (is-other k.place p n)

-- a place of the list that is not the first one's is one of the others
pub place-later : (k : StoredClause) (ks : List StoredClause) (p : ℕ) → IsClauseRef (k ∷ ks) p → k.place ≢ p → IsClauseRef ks p
place-later k ks p (j, inl e, f) n = absurd (n (sym (ap (λ x. x.place) e) ∙ f))
place-later k ks p (j, inr i, f) n = (j, i, f)

-- a place names a clause of the list
pub stored-∈ : (ks : List StoredClause) (p : ℕ) → IsClauseRef ks p → stored_at ks p ∈ ks
stored-∈ [] p (k, i, e) = absurd i
stored-∈ (k ∷ ks) p h =
    ⊎_elim
    (λ e. inl (stored-here k ks p e))
    (λ n. inr (subst (λ x. x ∈ ks) (sym (stored-later k ks p n)) (stored-∈ ks p (place-later k ks p h n))))
    (equal_or_not k.place p)

pub literals-∈ : (ks : List StoredClause) (k : StoredClause) → k ∈ ks → k.literals ∈ literals_of ks
literals-∈ [] k h = absurd h
literals-∈ (j ∷ ks) k (inl e) = inl (ap (λ x. x.literals) e)
literals-∈ (j ∷ ks) k (inr h) = inr (literals-∈ ks k h)

pub from-literals : (ks : List StoredClause) (c : Clause) → c ∈ literals_of ks → (k : StoredClause) × (k ∈ ks) × (k.literals ≡ c)
from-literals [] c h = absurd h
from-literals (k ∷ ks) c (inl e) = (k, inl refl, sym e)
from-literals (k ∷ ks) c (inr h) = let (j, i, e) = from-literals ks c h in (j, inr i, e)

-- the clause at a place is kept
pub kept-at : (ks : List StoredClause) (p : ℕ) → IsClauseRef ks p → literals_at ks p ∈ literals_of ks
kept-at ks p h = literals-∈ ks (stored_at ks p) (stored-∈ ks p h)

-- where the offsets rise, each names its clause
pub stored-found : (ks : List StoredClause) → AreRising ks → (k : StoredClause) → k ∈ ks → stored_at ks k.place ≡ k
stored-found [] r k h = absurd h
stored-found (j ∷ ks) r k (inl e) = stored-here j ks k.place (sym (ap (λ x. x.place) e)) ∙ sym e
stored-found (j ∷ ks) r k (inr h) = let l = r.0 k h in stored-later j ks k.place (λ e. absurd (omega (arith, l, e))) ∙ stored-found ks r.1 k h

-- one more clause behind the others
pub append-∈ : (ks : List StoredClause) (j k : StoredClause) → k ∈ ks → k ∈ (ks ++ j ∷ [])
append-∈ [] j k h = absurd h
append-∈ (x ∷ ks) j k (inl e) = inl e
append-∈ (x ∷ ks) j k (inr h) = inr (append-∈ ks j k h)

pub last-∈ : (ks : List StoredClause) (j : StoredClause) → j ∈ (ks ++ j ∷ [])
last-∈ [] j = inl refl
last-∈ (x ∷ ks) j = inr (last-∈ ks j)

pub from-append : (ks : List StoredClause) (j k : StoredClause) → k ∈ (ks ++ j ∷ []) → (k ∈ ks) ⊎ (k ≡ j)
from-append [] j k h = ⊎_elim inr (λ z. absurd z) h
from-append (x ∷ ks) j k (inl e) = inl (inl e)
from-append (x ∷ ks) j k (inr h) = ⊎_elim (λ i. inl (inr i)) inr (from-append ks j k h)

pub place-more : (ks : List StoredClause) (j : StoredClause) (p : ℕ) → IsClauseRef ks p → IsClauseRef (ks ++ j ∷ []) p
place-more ks j p (k, h, e) = (k, append-∈ ks j k h, e)

-- a place of more clauses is an old one, or the last
pub place-cases-more : (ks : List StoredClause) (j : StoredClause) (p : ℕ) → IsClauseRef (ks ++ j ∷ []) p → IsClauseRef ks p ⊎ (p ≡ j.place)
place-cases-more ks j p (k, h, e) = ⊎_elim (λ i. inl (k, i, e)) (λ f. inr (sym e ∙ ap (λ x. x.place) f)) (from-append ks j k h)

pub place-last : (ks : List StoredClause) (j : StoredClause) → IsClauseRef (ks ++ j ∷ []) j.place
place-last ks j = (j, last-∈ ks j, refl)

pub rising-more : (ks : List StoredClause) (j : StoredClause) → AreRising ks → ((k : StoredClause) → k ∈ ks → k.place < j.place) → AreRising (ks ++ j ∷ [])
rising-more [] j r h = ((λ k z. absurd z), tt)
rising-more (x ∷ ks) j r h =
    ((λ k i. ⊎_elim (r.0 k) (λ e. subst (λ y. x.place < y.place) (sym e) (h x (inl refl))) (from-append ks j k i)), rising-more ks j r.1 (λ k i. h k (inr i)))

pub stored-more : (ks : List StoredClause) (j : StoredClause) (p : ℕ) → IsClauseRef ks p → stored_at (ks ++ j ∷ []) p ≡ stored_at ks p
stored-more [] j p (k, h, e) = absurd h
stored-more (x ∷ ks) j p h =
    ⊎_elim
    (λ e. stored-here x (ks ++ j ∷ []) p e ∙ sym (stored-here x ks p e))
    (λ n. stored-later x (ks ++ j ∷ []) p n ∙ stored-more ks j p (place-later x ks p h n) ∙ sym (stored-later x ks p n))
    (equal_or_not x.place p)

pub stored-last : (ks : List StoredClause) (j : StoredClause) → ((k : StoredClause) → k ∈ ks → k.place < j.place) → stored_at (ks ++ j ∷ []) j.place ≡ j
stored-last [] j h = stored-here j [] j.place refl
stored-last (x ∷ ks) j h = let l = h x (inl refl) in stored-later x (ks ++ j ∷ []) j.place (λ e. absurd (omega (arith, l, e)))
    ∙ stored-last ks j (λ k i. h k (inr i))

pub literals-more : (ks : List StoredClause) (j : StoredClause) → literals_of (ks ++ j ∷ []) ≡ literals_of ks ++ j.literals ∷ []
literals-more [] j = refl
literals-more (x ∷ ks) j = ap (λ y. x.literals ∷ y) (literals-more ks j)

-- Reordered clauses.
pub reordered-refl : (P : List StoredClause) → AreReordered P P
reordered-refl [] = tt
reordered-refl (k ∷ P) = (refl, refl, same-self k.literals, reordered-refl P)

pub reordered-trans : (P Q R : List StoredClause) → AreReordered P Q → AreReordered Q R → AreReordered P R
reordered-trans [] [] [] a b = tt
reordered-trans [] [] (r ∷ R) a b = absurd b
reordered-trans [] (q ∷ Q) R a b = absurd a
reordered-trans (p ∷ P) [] R a b = absurd a
reordered-trans (p ∷ P) (q ∷ Q) [] a b = absurd b
reordered-trans (p ∷ P) (q ∷ Q) (r ∷ R) a b = (b.0 ∙ a.0, b.1 ∙ a.1, same-trans r.literals q.literals p.literals b.2 a.2, reordered-trans P Q R a.3 b.3)

pub reordered-length : (P Q : List StoredClause) → AreReordered P Q → length Q ≡ length P
reordered-length [] [] a = refl
reordered-length [] (q ∷ Q) a = absurd a
reordered-length (p ∷ P) [] a = absurd a
reordered-length (p ∷ P) (q ∷ Q) a = ap suc (reordered-length P Q a.3)

-- each clause is an old one as a set
pub reordered-old : (P Q : List StoredClause) → AreReordered P Q → (c : Clause) → c ∈ literals_of Q → (d : Clause) × (d ∈ literals_of P) × SameSet c d
reordered-old [] [] a c h = absurd h
reordered-old [] (q ∷ Q) a c h = absurd a
reordered-old (p ∷ P) [] a c h = absurd a
reordered-old (p ∷ P) (q ∷ Q) a c (inl e) = (p.literals, inl refl, subst (λ x. SameSet x p.literals) (sym e) a.2)
reordered-old (p ∷ P) (q ∷ Q) a c (inr h) = let (d, i, s) = reordered-old P Q a.3 c h in (d, inr i, s)

-- each old clause is one as a set
pub reordered-new : (P Q : List StoredClause) → AreReordered P Q → (c : Clause) → c ∈ literals_of P → (d : Clause) × (d ∈ literals_of Q) × SameSet d c
reordered-new [] [] a c h = absurd h
reordered-new [] (q ∷ Q) a c h = absurd a
reordered-new (p ∷ P) [] a c h = absurd a
reordered-new (p ∷ P) (q ∷ Q) a c (inl e) = (q.literals, inl refl, subst (SameSet q.literals) (sym e) a.2)
reordered-new (p ∷ P) (q ∷ Q) a c (inr h) = let (d, i, s) = reordered-new P Q a.3 c h in (d, inr i, s)

-- the same places
pub reordered-back : (P Q : List StoredClause) → AreReordered P Q → (k : StoredClause) → k ∈ Q → (j : StoredClause) × (j ∈ P) × (j.place ≡ k.place)
reordered-back [] [] a k h = absurd h
reordered-back [] (q ∷ Q) a k h = absurd a
reordered-back (p ∷ P) [] a k h = absurd a
reordered-back (p ∷ P) (q ∷ Q) a k (inl e) = (p, inl refl, sym a.0 ∙ sym (ap (λ x. x.place) e))
reordered-back (p ∷ P) (q ∷ Q) a k (inr h) = let (j, i, e) = reordered-back P Q a.3 k h in (j, inr i, e)

pub reordered-place : (P Q : List StoredClause) (p : ℕ) → AreReordered P Q → IsClauseRef P p → IsClauseRef Q p
reordered-place [] [] n a h = h
reordered-place [] (q ∷ Q) n a h = absurd a
reordered-place (p ∷ P) [] n a h = absurd a
reordered-place (p ∷ P) (q ∷ Q) n a (k, inl e, f) = (q, inl refl, a.0 ∙ sym (ap (λ x. x.place) e) ∙ f)
reordered-place (p ∷ P) (q ∷ Q) n a (k, inr h, f) = let (j, i, e) = reordered-place P Q n a.3 (k, h, f) in (j, inr i, e)

pub reordered-place-back : (P Q : List StoredClause) (p : ℕ) → AreReordered P Q → IsClauseRef Q p → IsClauseRef P p
reordered-place-back P Q p a (k, h, e) = let (j, i, f) = reordered-back P Q a k h in (j, i, f ∙ e)

-- the clause at a place is the old one as a set
pub reordered-at : (P Q : List StoredClause) (p : ℕ) → AreReordered P Q → SameSet (literals_at Q p) (literals_at P p)
reordered-at [] [] n a = same-self []
reordered-at [] (q ∷ Q) n a = absurd a
reordered-at (p ∷ P) [] n a = absurd a
reordered-at (p ∷ P) (q ∷ Q) n a =
    ⊎_elim
    (λ e. subst (λ x. SameSet (literals_at (q ∷ Q) n) x) (sym (ap (λ x. x.literals) (stored-here p P n e)))
    (subst (λ x. SameSet x p.literals) (sym (ap (λ x. x.literals) (stored-here q Q n (a.0 ∙ e)))) a.2))
    (λ m. subst (λ x. SameSet (literals_at (q ∷ Q) n) x) (sym (ap (λ x. x.literals) (stored-later p P n m)))
    (subst (λ x. SameSet x (literals_at P n)) (sym (ap (λ x. x.literals) (stored-later q Q n (λ e. m (sym a.0 ∙ e))))) (reordered-at P Q n a.3)))
    (equal_or_not p.place n)

pub reordered-rising : (P Q : List StoredClause) → AreReordered P Q → AreRising P → AreRising Q
reordered-rising [] [] a r = tt
reordered-rising [] (q ∷ Q) a r = absurd a
reordered-rising (p ∷ P) [] a r = absurd a
reordered-rising (p ∷ P) (q ∷ Q) a r =
    ((λ k i. let (j, h, e) = reordered-back P Q a.3 k i in let l = r.0 j h in let f = a.0 in omega (arith, l, e, f)), reordered-rising P Q a.3 r.1)

-- One clause has other literals.
pub with-reordered : (ks : List StoredClause) (p : ℕ) (c : Clause) → SameSet c (literals_at ks p) → AreReordered ks (with_literals ks p c)
with-reordered [] p c s = tt
with-reordered (k ∷ ks) p c s =
    ⊎_elim
    (λ e. subst (AreReordered (k ∷ ks)) (sym (with-here k ks p c e))
    (refl, refl, subst (λ x. SameSet c x.literals) (stored-here k ks p e) s, reordered-refl ks))
    (λ n. subst (AreReordered (k ∷ ks)) (sym (with-later k ks p c n))
    (refl, refl, same-self k.literals, with-reordered ks p c (subst (λ x. SameSet c x.literals) (stored-later k ks p n) s)))
    (equal_or_not k.place p)

pub with-same : (ks : List StoredClause) (p : ℕ) (c : Clause) → IsClauseRef ks p → literals_at (with_literals ks p c) p ≡ c
with-same [] p c (k, h, e) = absurd h
with-same (k ∷ ks) p c h =
    ⊎_elim
    (λ e. ap (λ xs. literals_at xs p) (with-here k ks p c e) ∙ ap (λ x. x.literals) (stored-here (record k { literals = c }) ks p e))
    (λ n. ap (λ xs. literals_at xs p) (with-later k ks p c n) ∙ ap (λ x. x.literals) (stored-later k (with_literals ks p c) p n)
    ∙ with-same ks p c (place-later k ks p h n))
    (equal_or_not k.place p)

pub with-other : (ks : List StoredClause) (p q : ℕ) (c : Clause) → q ≢ p → literals_at (with_literals ks p c) q ≡ literals_at ks q
with-other [] p q c n = refl
with-other (k ∷ ks) p q c n =
    ⊎_elim
    (λ e. let o : k.place ≢ q = λ f. n (sym f ∙ e) in
    ap (λ xs. literals_at xs q) (with-here k ks p c e) ∙ ap (λ x. x.literals) (stored-later (record k { literals = c }) ks q o ∙ sym (stored-later k ks q o)))
    (λ m. ap (λ xs. literals_at xs q) (with-later k ks p c m) ∙ ⊎_elim
    (λ e. ap (λ x. x.literals) (stored-here k (with_literals ks p c) q e ∙ sym (stored-here k ks q e)))
    (λ o. ap (λ x. x.literals) (stored-later k (with_literals ks p c) q o) ∙ with-other ks p q c n ∙ sym (ap (λ x. x.literals) (stored-later k ks q o)))
    (equal_or_not k.place q))
    (equal_or_not k.place p)

pub with-cases : (ks : List StoredClause) (p : ℕ) (c d : Clause) → d ∈ literals_of (with_literals ks p c) → (d ≡ c) ⊎ (d ∈ literals_of ks)
with-cases [] p c d h = absurd h
with-cases (k ∷ ks) p c d h =
    ⊎_elim
    (λ e. let i : d ∈ (c ∷ literals_of ks) = subst (λ xs. d ∈ literals_of xs) (with-here k ks p c e) h in ⊎_elim inl (λ j. inr (inr j)) i)
    (λ n. let i : d ∈ (k.literals ∷ literals_of (with_literals ks p c)) = subst (λ xs. d ∈ literals_of xs) (with-later k ks p c n) h in
    ⊎_elim (λ j. inr (inl j)) (λ j. ⊎_elim inl (λ g. inr (inr g)) (with-cases ks p c d j)) i)
    (equal_or_not k.place p)

-- a clause that gets the literals that it has stays as it is
pub with-own : (ks : List StoredClause) (p : ℕ) → with_literals ks p (literals_at ks p) ≡ ks
with-own [] p = refl
with-own (k ∷ ks) p =
    ⊎_elim
    (λ e. with-here k ks p (literals_at (k ∷ ks) p) e ∙ ap (λ (x : StoredClause). record k { literals = x.literals } ∷ ks) (stored-here k ks p e))
    (λ n. with-later k ks p (literals_at (k ∷ ks) p) n ∙ ap (λ (x : StoredClause). k ∷ with_literals ks p x.literals) (stored-later k ks p n)
    ∙ ap (λ xs. k ∷ xs) (with-own ks p))
    (equal_or_not k.place p)

-- One clause is another.
pub clause-here : (k : StoredClause) (ks : List StoredClause) (p : ℕ) (j : StoredClause) → k.place ≡ p → with_stored (k ∷ ks) p j ≡ j ∷ ks
clause-here k ks p j e = ap (λ b. cond b (j ∷ ks) (k ∷ with_stored ks p j)) (eq-eqb k.place p e)

pub clause-later : (k : StoredClause) (ks : List StoredClause) (p : ℕ) (j : StoredClause) → k.place ≢ p → with_stored (k ∷ ks) p j ≡ k ∷ with_stored ks p j
clause-later k ks p j n = ap (λ b. cond b (j ∷ ks) (k ∷ with_stored ks p j)) (is-other k.place p n)

-- other literals are another clause
pub literals-clause : (ks : List StoredClause) (p : ℕ) (c : Clause) → with_stored ks p (record (stored_at ks p) { literals = c }) ≡ with_literals ks p c
literals-clause [] p c = refl
literals-clause (k ∷ ks) p c =
    ⊎_elim
    (λ e. clause-here k ks p _ e ∙ ap (λ (x : StoredClause). record x { literals = c } ∷ ks) (stored-here k ks p e) ∙ sym (with-here k ks p c e))
    (λ n. clause-later k ks p _ n ∙ ap (λ (x : StoredClause). k ∷ with_stored ks p (record x { literals = c })) (stored-later k ks p n)
    ∙ ap (λ xs. k ∷ xs) (literals-clause ks p c) ∙ sym (with-later k ks p c n))
    (equal_or_not k.place p)

-- the other clause is found at the place, and no clause elsewhere changes
pub clause-same : (ks : List StoredClause) (p : ℕ) (j : StoredClause) → IsClauseRef ks p → j.place ≡ p → stored_at (with_stored ks p j) p ≡ j
clause-same [] p j (k, h, e) f = absurd h
clause-same (k ∷ ks) p j h f =
    ⊎_elim
    (λ e. ap (λ xs. stored_at xs p) (clause-here k ks p j e) ∙ stored-here j ks p f)
    (λ n. ap (λ xs. stored_at xs p) (clause-later k ks p j n) ∙ stored-later k (with_stored ks p j) p n ∙ clause-same ks p j (place-later k ks p h n) f)
    (equal_or_not k.place p)

pub clause-other : (ks : List StoredClause) (p q : ℕ) (j : StoredClause) → j.place ≡ p → q ≢ p → stored_at (with_stored ks p j) q ≡ stored_at ks q
clause-other [] p q j f n = refl
clause-other (k ∷ ks) p q j f n =
    ⊎_elim
    (λ e. let o : k.place ≢ q = λ g. n (sym g ∙ e) in let o2 : j.place ≢ q = λ g. n (sym g ∙ f) in
    ap (λ xs. stored_at xs q) (clause-here k ks p j e) ∙ stored-later j ks q o2 ∙ sym (stored-later k ks q o))
    (λ m. ap (λ xs. stored_at xs q) (clause-later k ks p j m) ∙ ⊎_elim
    (λ e. stored-here k (with_stored ks p j) q e ∙ sym (stored-here k ks q e))
    (λ o. stored-later k (with_stored ks p j) q o ∙ clause-other ks p q j f n ∙ sym (stored-later k ks q o))
    (equal_or_not k.place q))
    (equal_or_not k.place p)

-- an element of the new list is the other clause or an old one
pub clause-cases : (ks : List StoredClause) (p : ℕ) (j k : StoredClause) → k ∈ with_stored ks p j → (k ≡ j) ⊎ (k ∈ ks)
clause-cases [] p j k h = absurd h
clause-cases (x ∷ ks) p j k h =
    ⊎_elim
    (λ e. let i : k ∈ (j ∷ ks) = subst (λ xs. k ∈ xs) (clause-here x ks p j e) h in ⊎_elim inl (λ m. inr (inr m)) i)
    (λ n. let i : k ∈ (x ∷ with_stored ks p j) = subst (λ xs. k ∈ xs) (clause-later x ks p j n) h in
    ⊎_elim (λ e. inr (inl e)) (λ m. ⊎_elim inl (λ g. inr (inr g)) (clause-cases ks p j k m)) i)
    (equal_or_not x.place p)

-- the places stay
pub clause-place : (ks : List StoredClause) (p q : ℕ) (j : StoredClause) → j.place ≡ p → IsClauseRef ks q → IsClauseRef (with_stored ks p j) q
clause-place [] p q j f h = h
clause-place (k ∷ ks) p q j f h =
    ⊎_elim
    (λ e. subst (λ xs. IsClauseRef xs q) (sym (clause-here k ks p j e)) (⊎_elim
    (λ g. (j, inl refl, f ∙ sym e ∙ g))
    (λ n. let (x, i, g) = place-later k ks q h n in (x, inr i, g))
    (equal_or_not k.place q)))
    (λ m. subst (λ xs. IsClauseRef xs q) (sym (clause-later k ks p j m)) (⊎_elim
    (λ g. (k, inl refl, g))
    (λ n. let (x, i, g) = clause-place ks p q j f (place-later k ks q h n) in (x, inr i, g))
    (equal_or_not k.place q)))
    (equal_or_not k.place p)

-- of two clauses that are put there one after the other the second is left
pub clause-twice : (ks : List StoredClause) (p : ℕ) (c j : StoredClause) → c.place ≡ p → with_stored (with_stored ks p c) p j ≡ with_stored ks p j
clause-twice [] p c j e = refl
clause-twice (k ∷ ks) p c j e =
    ⊎_elim
    (λ f. ap (λ xs. with_stored xs p j) (clause-here k ks p c f) ∙ clause-here c ks p j e ∙ sym (clause-here k ks p j f))
    (λ n. ap (λ xs. with_stored xs p j) (clause-later k ks p c n) ∙ clause-later k (with_stored ks p c) p j n
    ∙ ap (λ xs. k ∷ xs) (clause-twice ks p c j e) ∙ sym (clause-later k ks p j n))
    (equal_or_not k.place p)
