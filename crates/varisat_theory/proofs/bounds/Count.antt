-- A list with no element twice is no longer than one that holds its elements.
use Rattle.std.proofs.Common.{◌≡◌, ◌≤◌, List, [], ◌∷◌, ◌++◌, inl, inr, ⊎_elim, sym, ap, subst, refl, length, arith, length-append}
use Rattle.varisat_theory.specs.promises.Membership.{◌∈◌, ◌⊆◌, IsDistinct}
use Rattle.varisat_theory.proofs.clauses.Members.{∈-append_cases, ∈-append_left, ∈-append_right}

splits : {X : Type 0} (x : X) (ys : List X) → x ∈ ys → (front back : List X) × (ys ≡ front ++ (x ∷ back))
splits x [] h = absurd h
splits x (y ∷ ys) (inl e) = ([], ys, ap (λ z. z ∷ ys) (sym e))
splits x (y ∷ ys) (inr h) = let r = splits x ys h in (y ∷ r.0, r.1, ap (λ l. y ∷ l) r.2)

pub length-distinct : {X : Type 0} (xs ys : List X) → IsDistinct xs → xs ⊆ ys → length xs ≤ length ys
length-distinct [] ys d s = omega arith
length-distinct {X = X} (x ∷ xs) ys d s =
    let r = splits x ys (s x (inl refl)) in
    let front = r.0 in
    let back = r.1 in
    let rest : xs ⊆ (front ++ back) = λ z h. keep z (front) (back) (subst (λ l. z ∈ l) r.2 (s z (inr h))) (λ e. d.0 (subst (λ w. w ∈ xs) e h)) in
    let ih = length-distinct xs (front ++ back) d.1 rest in
    omega (arith, ih, ap length r.2, length-append front (x ∷ back), length-append front back)
  where
    keep : (z : X) (front back : List X) → z ∈ (front ++ (x ∷ back)) → (z ≡ x → ⊥) → z ∈ (front ++ back)
    keep z front back h n = ⊎_elim (λ k. ∈-append_left z front back k) (λ k. ⊎_elim (λ e. absurd (n e)) (λ j. ∈-append_right z front back j) k)
        (∈-append_cases z front (x ∷ back) h)
