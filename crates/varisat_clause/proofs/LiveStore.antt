-- The clauses of a store that are not deleted, by their places.
use Rattle.std.proofs.Common.{◌≡◌, ◌≢◌, ℕ, ◌≤◌, List, [], ◌∷◌, length, inl, inr, ⊎_elim, true, false, cond, sym, ap, ◌∙◌, subst, arith}
use Rattle.std.proofs.lemmas.Bool.{cases_Bool}
use Rattle.varisat_theory.specs.promises.Membership.{◌∈◌}
use Rattle.varisat_theory.specs.promises.Literals.{Clause}
use Rattle.varisat_theory.proofs.clauses.Members.{equal_or_not}
use Rattle.varisat_clause.specs.Stored.{StoredClause, IsClauseRef, stored_at, literals_at, with_literals, AreRising, AppendsClause}
use Rattle.varisat_clause.specs.Stores.{Store, stored_clauses, IsSound, HoldsClauses, AddsStored}
use Rattle.varisat_clause.specs.Collected.{live_of, live_clauses}
use Rattle.varisat_clause.proofs.StoredClauses.{stored-here, stored-later, stored-∈, with-here, with-later, place-later, place-last}
use Rattle.varisat_clause.proofs.StoreSound.{are-rising, are-long}
use Rattle.varisat_clause.proofs.CollectedClauses.{live-more}

-- the first clause is deleted, or it is not
live-later : (k : StoredClause) (ks : List StoredClause) → k.header.deleted ≡ true → live_of (k ∷ ks) ≡ live_of ks
live-later k ks d = ap (λ b. cond b (live_of ks) (k ∷ live_of ks)) d

live-here : (k : StoredClause) (ks : List StoredClause) → k.header.deleted ≡ false → live_of (k ∷ ks) ≡ k ∷ live_of ks
live-here k ks d = ap (λ b. cond b (live_of ks) (k ∷ live_of ks)) d

-- each is a clause, and is not deleted
pub live-∈ : (ks : List StoredClause) (k : StoredClause) → k ∈ live_of ks → (k ∈ ks) × (k.header.deleted ≡ false)
live-∈ [] k h = absurd h
live-∈ (j ∷ ks) k h =
    ⊎_elim
    (λ d. let (i, e) = live-∈ ks k (subst (λ xs. k ∈ xs) (live-later j ks d) h) in (inr i, e))
    (λ d. ⊎_elim (λ e. (inl e, ap (λ (x : StoredClause). x.header.deleted) e ∙ d)) (λ m. let (i, e) = live-∈ ks k m in (inr i, e))
    (subst (λ xs. k ∈ xs) (live-here j ks d) h))
    (cases_Bool j.header.deleted)

pub ∈-live : (ks : List StoredClause) (k : StoredClause) → k ∈ ks → k.header.deleted ≡ false → k ∈ live_of ks
∈-live [] k h e = absurd h
∈-live (j ∷ ks) k h e =
    ⊎_elim
    (λ d. subst (λ xs. k ∈ xs) (sym (live-later j ks d))
    (⊎_elim (λ f. absurd (let g : true ≡ false = sym d ∙ sym (ap (λ (x : StoredClause). x.header.deleted) f) ∙ e in cc)) (λ i. ∈-live ks k i e) h))
    (λ d. subst (λ xs. k ∈ xs) (sym (live-here j ks d)) (⊎_elim inl (λ i. inr (∈-live ks k i e)) h))
    (cases_Bool j.header.deleted)

pub live-place : (ks : List StoredClause) (p : ℕ) → IsClauseRef (live_of ks) p → IsClauseRef ks p
live-place ks p (k, h, e) = (k, (live-∈ ks k h).0, e)

live-rising : (ks : List StoredClause) → AreRising ks → AreRising (live_of ks)
live-rising [] r = tt
live-rising (j ∷ ks) r =
    ⊎_elim
    (λ d. subst AreRising (sym (live-later j ks d)) (live-rising ks r.1))
    (λ d. subst AreRising (sym (live-here j ks d)) ((λ k h. r.0 k (live-∈ ks k h).0), live-rising ks r.1))
    (cases_Bool j.header.deleted)

-- where the places rise, none of the later clauses stands at the first one's
passed : (j : StoredClause) (ks : List StoredClause) (p : ℕ) → AreRising (j ∷ ks) → IsClauseRef (live_of ks) p → j.place ≢ p
passed j ks p r (k, h, e) f = let l = r.0 k (live-∈ ks k h).0 in absurd (omega (arith, l, e, f))

live-at : (ks : List StoredClause) (p : ℕ) → AreRising ks → IsClauseRef (live_of ks) p → stored_at (live_of ks) p ≡ stored_at ks p
live-at [] p r (k, h, e) = absurd h
live-at (j ∷ ks) p r h =
    ⊎_elim
    (λ d. let i = subst (λ xs. IsClauseRef xs p) (live-later j ks d) h in
    ap (λ xs. stored_at xs p) (live-later j ks d) ∙ live-at ks p r.1 i ∙ sym (stored-later j ks p (passed j ks p r i)))
    (λ d. ap (λ xs. stored_at xs p) (live-here j ks d) ∙ ⊎_elim
    (λ e. stored-here j (live_of ks) p e ∙ sym (stored-here j ks p e))
    (λ n. stored-later j (live_of ks) p n ∙ live-at ks p r.1 (place-later j (live_of ks) p (subst (λ xs. IsClauseRef xs p) (live-here j ks d) h) n)
    ∙ sym (stored-later j ks p n))
    (equal_or_not j.place p))
    (cases_Bool j.header.deleted)

live-with : (ks : List StoredClause) (p : ℕ) (c : Clause) → AreRising ks → IsClauseRef (live_of ks) p →
    live_of (with_literals ks p c) ≡ with_literals (live_of ks) p c
live-with [] p c r (k, h, e) = absurd h
live-with (j ∷ ks) p c r h =
    ⊎_elim
    (λ d. let i = subst (λ xs. IsClauseRef xs p) (live-later j ks d) h in
    ap live_of (with-later j ks p c (passed j ks p r i)) ∙ live-later j (with_literals ks p c) d ∙ live-with ks p c r.1 i
    ∙ sym (ap (λ xs. with_literals xs p c) (live-later j ks d)))
    (λ d. ⊎_elim
    (λ e. ap live_of (with-here j ks p c e) ∙ live-here (record j { literals = c }) ks d ∙ sym (with-here j (live_of ks) p c e)
    ∙ sym (ap (λ xs. with_literals xs p c) (live-here j ks d)))
    (λ n. ap live_of (with-later j ks p c n) ∙ live-here j (with_literals ks p c) d
    ∙ ap (λ xs. j ∷ xs) (live-with ks p c r.1 (place-later j (live_of ks) p (subst (λ xs. IsClauseRef xs p) (live-here j ks d) h) n))
    ∙ sym (with-later j (live_of ks) p c n) ∙ sym (ap (λ xs. with_literals xs p c) (live-here j ks d)))
    (equal_or_not j.place p))
    (cases_Bool j.header.deleted)

-- what is read at the place of a clause that is not deleted
module _ (s : Store) (p : ℕ) (ok : IsSound s) (h : IsClauseRef (live_clauses s) p) where
  pub live-stored : stored_at (stored_clauses s) p ≡ stored_at (live_clauses s) p
  live-stored = sym (live-at (stored_clauses s) p (are-rising s ok) h)

  pub live-literals : literals_at (stored_clauses s) p ≡ literals_at (live_clauses s) p
  live-literals = ap (λ (k : StoredClause). k.literals) live-stored

  -- its literals were changed
  pub live-changed : (n : Store) (size : ℕ) (c : Clause) → HoldsClauses n size (with_literals (stored_clauses s) p c) →
      live_clauses n ≡ with_literals (live_clauses s) p c
  live-changed n size c w = ap live_of w.clauses ∙ live-with (stored_clauses s) p c (are-rising s ok) h

pub are-live-rising : (s : Store) → IsSound s → AreRising (live_clauses s)
are-live-rising s ok = live-rising (stored_clauses s) (are-rising s ok)

pub are-live-long : (s : Store) → IsSound s → (k : StoredClause) → k ∈ live_clauses s → 3 ≤ length k.literals
are-live-long s ok k h = (are-long s ok k (live-∈ (stored_clauses s) k h).0).0

pub live-long-at : (s : Store) (p : ℕ) → IsSound s → IsClauseRef (live_clauses s) p → 3 ≤ length (literals_at (live_clauses s) p)
live-long-at s p ok h = are-live-long s ok (stored_at (live_clauses s) p) (stored-∈ (live_clauses s) p h)

-- a clause that is not deleted was added
pub live-added : (s n : Store) (k : StoredClause) → AddsStored s n k → k.header.deleted ≡ false → AppendsClause (live_clauses s) (live_clauses n) k
live-added s n k a d = (ap live_of a.clauses.0 ∙ live-more (stored_clauses s) k d, λ j h. a.clauses.1 j (live-∈ (stored_clauses s) j h).0)

-- it stands at its place
pub added-place : (s n : Store) (k : StoredClause) → AddsStored s n k → k.header.deleted ≡ false → IsClauseRef (live_clauses n) k.place
added-place s n k a d = subst (λ ks. IsClauseRef ks k.place) (sym (live-added s n k a d).0) (place-last (live_clauses s) k)
