-- Flags that are taken away, for `clear_flags` and its callers.
use Rattle.std.proofs.Common.{◌≡◌, ℕ, zero, suc, ◌+◌, ◌<◌, ◌≤◌, Bool, false, List, [], ◌∷◌, length, get_or, set, take, take_all, ◌++◌, inl, inr, ⊎_elim, refl, sym, ◌∙◌, subst, arith, get_or-set_same, get_or-set_other}
use Rattle.std.proofs.lemmas.Bool.{cases_lt}
use Rattle.std.proofs.lemmas.List.{take-append-le}
use Rattle.varisat_theory.specs.promises.Membership.{◌∈◌}
use Rattle.varisat_theory.proofs.clauses.Members.{equal_or_not}
use Rattle.varisat_theory.proofs.clauses.Places.{∈-take_more, ∈-take_all}
use Rattle.varisat_analysis.proofs.AnalysisMarks.{take-grow, take-last}

-- The variables' flags are false, and the others are as they were.
pub record IsCleared (vars : List ℕ) (f g : List Bool) : Type 0 where
  pub gone : (v : ℕ) → v ∈ vars → get_or g v false ≡ false
  pub rest : (v : ℕ) → (v ∈ vars → ⊥) → get_or g v false ≡ get_or f v false

pub cleared-start : (f : List Bool) → IsCleared [] f f
cleared-start f = record { gone = λ v i. absurd i; rest = λ v n. refl }

pub cleared-more : (vars : List ℕ) (f g : List Bool) (k x : ℕ) → k < length vars → x ≡ get_or vars k 0 → x < length g →
    IsCleared (take k vars) f g → IsCleared (take (k + 1) vars) f (set g x false)
cleared-more vars f g k x l e h a = record {
  gone = λ v i. ⊎_elim
      (λ j. ⊎_elim (λ q. same v q) (λ n. get_or-set_other g x v false false n ∙ a.gone v j) (equal_or_not v x))
      (λ q. same v (q ∙ sym e))
      (∈-take_more v vars k 0 i);
  rest = λ v n. get_or-set_other g x v false false (λ q. n (subst (λ y. y ∈ take (k + 1) vars) (sym (q ∙ e)) (take-last k vars l)))
      ∙ a.rest v (λ i. n (take-grow k vars v i));
}
  where
    same : (v : ℕ) → v ≡ x → get_or (set g x false) v false ≡ false
    same v q = subst (λ y. get_or (set g x false) y false ≡ false) (sym q) (get_or-set_same g x false false h)

pub cleared-end : (vars : List ℕ) (f g : List Bool) (k : ℕ) → length vars ≤ k → IsCleared (take k vars) f g →
    ((v : ℕ) → v ∈ vars → get_or g v false ≡ false) × ((v : ℕ) → (v ∈ vars → ⊥) → get_or g v false ≡ get_or f v false)
cleared-end vars f g k h a =
    ((λ v i. a.gone v (∈-take_all v vars k h i)), (λ v n. a.rest v (λ i. n (back vars k v i))))
  where
    back : (xs : List ℕ) (k v : ℕ) → v ∈ take k xs → v ∈ xs
    back [] zero v i = absurd i
    back [] (suc k) v i = absurd i
    back (x ∷ xs) zero v i = absurd i
    back (x ∷ xs) (suc k) v (inl e) = inl e
    back (x ∷ xs) (suc k) v (inr i) = inr (back xs k v i)

pub all-cleared-more : (g : List Bool) (k : ℕ) → k < length g → ((v : ℕ) → v < k → get_or g v false ≡ false) → (v : ℕ) → v < k + 1 →
    get_or (set g k false) v false ≡ false
all-cleared-more g k h a v l =
    ⊎_elim
    (λ e. subst (λ y. get_or (set g k false) y false ≡ false) (sym e) (get_or-set_same g k false false h))
    (λ n. get_or-set_other g k v false false n ∙ a v (smaller v k l n))
    (equal_or_not v k)
  where
    smaller : (v k : ℕ) → v < k + 1 → (v ≡ k → ⊥) → v < k
    smaller v k l n = grind arith

pub all-cleared-end : (g : List Bool) (k : ℕ) → length g ≤ k → ((v : ℕ) → v < k → get_or g v false ≡ false) → (v : ℕ) → get_or g v false ≡ false
all-cleared-end g k h a v = ⊎_elim (λ l. a v l) (λ (l : k ≤ v). beyond g v (omega (arith, h, l))) (cases_lt v k)
  where
    beyond : (xs : List Bool) (v : ℕ) → length xs ≤ v → get_or xs v false ≡ false
    beyond [] v h = refl
    beyond (x ∷ xs) zero h = absurd (omega arith)
    beyond (x ∷ xs) (suc v) h = beyond xs v (omega arith)

-- flags that were lent and are given back
pub given-back : (flags rest : List Bool) (n : ℕ) → n ≡ length flags → ((v : ℕ) → get_or flags v false ≡ false) → (v : ℕ) →
    get_or (take n (flags ++ rest)) v false ≡ false
given-back flags rest n e g v = subst (λ k. get_or k v false ≡ false)
    (sym (take-append-le n flags rest (omega (arith, e)) ∙ take_all n flags (omega (arith, e)))) (g v)
