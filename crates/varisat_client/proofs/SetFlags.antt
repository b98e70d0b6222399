-- Flags of literals that are set one after another.
use Rattle.std.proofs.Common.{◌≡◌, ℕ, zero, suc, ◌<◌, ◌≤◌, Bool, true, false, List, [], ◌∷◌, ◌++◌, ◌-◌, length, get_or, set, take, replicate, inl, ⊎_elim, refl, sym, ap, ◌∙◌, subst, arith, get_or-set_same, get_or-set_other}
use Rattle.varisat_theory.specs.promises.Literals.{Literal}
use Rattle.varisat_theory.proofs.clauses.Members.{equal_or_not, ∈-append_left, ∈-append_right, ∈-append_cases}
use Rattle.varisat_client.specs.inside.LiteralSets.{IsSetOf, HaveFlags}

-- one more literal joins the set
pub set-push : (ls : List Literal) (l : Literal) (flags : List Bool) (i : ℕ) → i ≡ l → i < length flags → IsSetOf ls flags →
    IsSetOf (ls ++ l ∷ []) (set flags i true)
set-push ls l flags i e h f = λ k. (
  (λ a. ⊎_elim
      (λ q. ∈-append_right k ls (l ∷ []) (inl (q ∙ e)))
      (λ n. ∈-append_left k ls (l ∷ []) ((f k).0 (sym (get_or-set_other flags i k true false n) ∙ a)))
      (equal_or_not k i)),
  (λ b. ⊎_elim
      (λ q. ap (λ w. get_or (set flags i true) w false) q ∙ get_or-set_same flags i true false h)
      (λ n. get_or-set_other flags i k true false n ∙ ⊎_elim
      (λ c. (f k).1 c)
      (λ c. ⊎_elim (λ o. absurd (n (o ∙ sym e))) (λ z. absurd z) c)
      (∈-append_cases k ls (l ∷ []) b))
      (equal_or_not k i)),
)

-- one more literal is below a count that is no smaller
pub below-push : (n m : ℕ) (ls : List Literal) (l : Literal) → n ≤ m → l < m → HaveFlags n ls → HaveFlags m (ls ++ l ∷ [])
below-push n m ls l h k b = λ x i. ⊎_elim
    (λ j. let q = b x j in omega (arith, q, h))
    (λ j. ⊎_elim (λ e. omega (arith, e, k)) (λ z. absurd z) j)
    (∈-append_cases x ls (l ∷ []) i)

-- no flag is set
pub none-set : (n : ℕ) → IsSetOf [] (replicate n false)
none-set n = λ k. ((λ a. let z : true ≡ false = sym a ∙ clear n k in absurd cc), (λ z. absurd z))
  where
    clear : (n k : ℕ) → get_or (replicate n false) k false ≡ false
    clear zero k = refl
    clear (suc n) zero = refl
    clear (suc n) (suc k) = clear n k

-- a list of flags that was made anew
pub fresh : (k n : ℕ) (xs ys zs : List Bool) → xs ≡ [] → n ≡ 0 → ys ≡ take k xs ++ replicate (k - n) false → zs ≡ ys → zs ≡ replicate k false
fresh k n xs ys zs e z q r =
    r ∙ q ∙ ap (λ (v : List Bool). take k v ++ replicate (k - n) false) e
    ∙ (let m : k - n ≡ k = omega (arith, z) in ap (λ i. take k [] ++ replicate i false) m) ∙ rest k (replicate k false)
  where
    rest : (k : ℕ) (zs : List Bool) → take k [] ++ zs ≡ zs
    rest zero zs = refl
    rest (suc k) zs = refl

pub fresh-count : (k : ℕ) (zs : List Bool) (lits : List Literal) → zs ≡ replicate k false → HaveFlags k lits → HaveFlags (length zs) lits
fresh-count k zs lits e b = subst (λ n. HaveFlags n lits) (sym (ap length e ∙ count k)) b
  where
    count : (k : ℕ) → length (replicate k false) ≡ k
    count zero = refl
    count (suc k) = ap suc (count k)
