-- Clauses that are deleted one after another.
use Rattle.std.proofs.Common.{◌≡◌, ◌≢◌, ℕ, zero, suc, ◌+◌, ◌-◌, ◌<◌, List, [], ◌∷◌, length, drop, get_or, Bool, true, false, cond, refl, sym, ap, ◌∙◌, subst, ◌⊎◌, inl, inr, ⊎_elim, arith, add-one}
use Rattle.std.proofs.Math.Seq.{drop-cons}
use Rattle.std.specs.Prelude.{not, ◌&&◌}
use Rattle.varisat_theory.specs.promises.Membership.{◌∈◌, IsDistinct}
use Rattle.varisat_theory.proofs.clauses.Members.{equal_or_not}
use Rattle.varisat_clause.specs.declared.header.Tier.{Tier}
use Rattle.varisat_clause.specs.Tiers.{is_tier}
use Rattle.varisat_clause.specs.Stored.{StoredClause, IsClauseRef, stored_at, header_at}
use Rattle.varisat_clause.specs.Stores.{Store, stored_clauses, IsSound, HoldsClauses}
use Rattle.varisat_clause.specs.Databases.{is_live_in}
use Rattle.varisat_clause.specs.Filters.{deleted_at}
use Rattle.varisat_clause.specs.Reductions.{ListsTier, unmarked_places, all_deleted}
use Rattle.varisat_clause.proofs.StoredClauses.{clause-same, clause-other, clause-place}
use Rattle.varisat_clause.proofs.DatabaseTracks.{place-is}

pub unmarked-none : (ks : List StoredClause) (ps : List ℕ) → unmarked_places ks zero ps ≡ []
unmarked-none ks [] = refl
unmarked-none ks (p ∷ ps) = refl

-- how far the deletions have come, from the store s to the clauses `goal`, where `left` are to be deleted of the rest
pub record IsReducing (goal : List StoredClause) (s t : Store) (left : ℕ) (rest : List ℕ) : Type 0 where
  pub size : length t.words ≡ length s.words
  pub marks : (q : ℕ) → (header_at (stored_clauses t) q).mark ≡ (header_at (stored_clauses s) q).mark
  pub known : (q : ℕ) → q ∈ rest → IsClauseRef (stored_clauses t) q
  pub live : (q : ℕ) → q ∈ rest → (header_at (stored_clauses t) q).deleted ≡ false
  pub distinct : IsDistinct rest
  pub result : all_deleted (unmarked_places (stored_clauses s) left rest) (stored_clauses t) ≡ goal

pub live-not-deleted : (t : Tier) (k : StoredClause) → is_live_in t k ≡ true → k.header.deleted ≡ false
live-not-deleted t k e = go k.header.deleted (is_tier t k.header.tier) e
  where
    go : (a b : Bool) → (not a && b) ≡ true → a ≡ false
    go true b f = absurd (cc)
    go false b f = refl

pub reducing-none : (t : Tier) (s : Store) (n : ℕ) (ps : List ℕ) → ListsTier t (stored_clauses s) ps →
    IsReducing (all_deleted (unmarked_places (stored_clauses s) n ps) (stored_clauses s)) s s n ps
reducing-none t s n ps l = record {
  size = refl;
  marks = λ q. refl;
  known = l.known;
  live = λ q h. live-not-deleted t (stored_at (stored_clauses s) q) (l.live q h);
  distinct = l.distinct;
  result = refl;
}

-- the next one stays
pub reducing-kept : (goal : List StoredClause) (s t : Store) (left p : ℕ) (ps : List ℕ) → IsReducing goal s t left (p ∷ ps) → (left ≡ 0)
    ⊎ ((header_at (stored_clauses t) p).mark ≡ true) → IsReducing goal s t left ps
reducing-kept goal s t left p ps r h = record {
  size = r.size;
  marks = r.marks;
  known = λ q i. r.known q (inr i);
  live = λ q i. r.live q (inr i);
  distinct = r.distinct.1;
  result = ap (λ xs. all_deleted xs (stored_clauses t)) (sym (same left h)) ∙ r.result;
}
  where
    none : (left : ℕ) → left ≡ 0 → unmarked_places (stored_clauses s) left (p ∷ ps) ≡ unmarked_places (stored_clauses s) left ps
    none zero e = sym (unmarked-none (stored_clauses s) ps)
    none (suc n) e = absurd (omega (arith, e))

    passed : (left : ℕ) → (header_at (stored_clauses t) p).mark ≡ true →
        unmarked_places (stored_clauses s) left (p ∷ ps) ≡ unmarked_places (stored_clauses s) left ps
    passed zero e = sym (unmarked-none (stored_clauses s) ps)
    passed (suc n) e = ap (λ b. cond b (unmarked_places (stored_clauses s) (suc n) ps) (p ∷ unmarked_places (stored_clauses s) n ps)) (sym (r.marks p) ∙ e)

    same : (left : ℕ) → (left ≡ 0) ⊎ ((header_at (stored_clauses t) p).mark ≡ true) →
        unmarked_places (stored_clauses s) left (p ∷ ps) ≡ unmarked_places (stored_clauses s) left ps
    same left k = ⊎_elim (none left) (passed left) k

-- the next one is deleted
pub reducing-deleted : (goal : List StoredClause) (s t u : Store) (left p : ℕ) (ps : List ℕ) → IsReducing goal s t left (p ∷ ps) → 0 < left →
    (header_at (stored_clauses t) p).mark ≡ false → HoldsClauses u (length t.words) (deleted_at (stored_clauses t) p) → IsReducing goal s u (left - 1) ps
reducing-deleted goal s t u zero p ps r l m o = absurd (omega (arith, l))
reducing-deleted goal s t u (suc n) p ps r l m o =
    let k : StoredClause = stored_at (stored_clauses t) p in
    let j : StoredClause = record k { header = record k.header { deleted = true } } in
    let at = r.known p (inl refl) in
    let here : j.place ≡ p = place-is (stored_clauses t) p at in
    let other : (q : ℕ) → q ≢ p → stored_at (stored_clauses u) q ≡ stored_at (stored_clauses t) q = λ q e. ap (λ xs. stored_at xs q) o.clauses
    ∙ clause-other (stored_clauses t) p q j here e in
    let not-here : (q : ℕ) → q ∈ ps → q ≢ p = λ q i e. r.distinct.0 (subst (λ (x : ℕ). x ∈ ps) e i) in
    let less : n ≡ suc n - 1 = omega arith in
    subst (λ (x : ℕ). IsReducing goal s u x ps) less (record {
      size = o.words ∙ r.size;
      marks = λ q. ⊎_elim
          (λ e. ap (λ (x : ℕ). (header_at (stored_clauses u) x).mark) e ∙ ap (λ xs. (header_at xs p).mark) o.clauses
          ∙ ap (λ (x : StoredClause). x.header.mark) (clause-same (stored_clauses t) p j at here)
          ∙ sym (ap (λ (x : ℕ). (header_at (stored_clauses t) x).mark) e) ∙ r.marks q)
          (λ e. ap (λ (x : StoredClause). x.header.mark) (other q e) ∙ r.marks q)
          (equal_or_not q p);
      known = λ q i. subst (λ xs. IsClauseRef xs q) (sym o.clauses) (clause-place (stored_clauses t) p q j here (r.known q (inr i)));
      live = λ q i. ap (λ (x : StoredClause). x.header.deleted) (other q (not-here q i)) ∙ r.live q (inr i);
      distinct = r.distinct.1;
      result =
          let v : unmarked_places (stored_clauses s) (suc n) (p ∷ ps) ≡ p ∷ unmarked_places (stored_clauses s) n ps =
          ap (λ b. cond b (unmarked_places (stored_clauses s) (suc n) ps) (p ∷ unmarked_places (stored_clauses s) n ps)) (sym (r.marks p) ∙ m) in
          ap (λ xs. all_deleted (unmarked_places (stored_clauses s) n ps) xs) o.clauses ∙ sym (ap (λ xs. all_deleted xs (stored_clauses t)) v) ∙ r.result;
    })

-- none is left
pub reducing-done : (goal : List StoredClause) (s t : Store) (left : ℕ) (rest : List ℕ) → rest ≡ [] → IsSound t → IsReducing goal s t left rest →
    HoldsClauses t (length s.words) goal
reducing-done goal s t left rest e ok r = record {
  sound = ok;
  words = r.size;
  clauses = ap (λ xs. all_deleted xs (stored_clauses t)) (none left) ∙ r.result;
}
  where
    none : (left : ℕ) → [] ≡ unmarked_places (stored_clauses s) left rest
    none left = sym (ap (unmarked_places (stored_clauses s) left) e)

-- the next place of a list
pub drop-place : (ps : List ℕ) (i p : ℕ) → i < length ps → p ≡ get_or ps i 0 → drop i ps ≡ p ∷ drop (i + 1) ps
drop-place ps i p h e = drop-cons ps i 0 h ∙ ap (λ (x : ℕ). x ∷ drop (suc i) ps) (sym e) ∙ ap (λ (n : ℕ). p ∷ drop n ps) (sym (add-one i))

-- an element that was read
pub element : (xs : List ℕ) (i v : ℕ) → i < length xs → v ≡ get_or xs i v → v ≡ get_or xs i 0
element [] i v h e = absurd (omega arith)
element (x ∷ xs) zero v h e = e
element (x ∷ xs) (suc i) v h e = element xs i v (omega arith) e
