-- A text of which pieces are given.
use Rattle.std.proofs.Common.{◌≡◌, ℕ, zero, suc, ◌+◌, ◌<◌, ◌≤◌, ◌⊎◌, inl, inr, append-nil, List, [], ◌∷◌, ◌++◌, take, drop, length, min, refl, sym, ap, ◌∙◌, arith}
use Rattle.std.proofs.lemmas.List.{take-append-drop}
use Rattle.varisat_formula.specs.promises.Streams.{piece_size}

-- a copied front is the front of what it was copied from
pub copied_front : (n : ℕ) (front rest text behind : List ℕ) → rest ≡ text → front ≡ take n rest → n ≤ length rest → take n (front ++ behind) ≡ take n text
copied_front n front rest text behind e f h = ap (λ x. take n (x ++ behind)) f ∙ fronts n rest behind h ∙ ap (λ x. take n x) e
  where
    fronts : (n : ℕ) (rest behind : List ℕ) → n ≤ length rest → take n (take n rest ++ behind) ≡ take n rest
    fronts zero rest behind h = refl
    fronts (suc n) [] behind h = absurd (omega arith)
    fronts (suc n) (x ∷ rest) behind h = ap (λ ys. x ∷ ys) (fronts n rest behind (omega arith))

-- what is left behind a place that may be past the end
pub left_behind : (p : ℕ) (text : List ℕ) → drop (min p (length text)) text ≡ drop p text
left_behind zero text = ap (λ k. drop k text) (least (length text))
  where
    least : (n : ℕ) → min 0 n ≡ 0
    least n = omega arith
left_behind (suc p) [] = ap (λ k. drop {A = ℕ} k []) (least p)
  where
    least : (p : ℕ) → min (suc p) 0 ≡ 0
    least p = omega arith
left_behind (suc p) (x ∷ text) = ap (λ k. drop k (x ∷ text)) (lower p (length text)) ∙ left_behind p text
  where
    lower : (p n : ℕ) → min (suc p) (suc n) ≡ suc (min p n)
    lower p n = omega arith

-- n bytes more were given
pub given_more : (p n q : ℕ) (text piece : List ℕ) → q ≡ min p (length text) + n → piece ≡ take n (drop p text) → take q text ≡ take p text ++ piece
given_more p n q text piece e f = ap (λ k. take k text) e ∙ more p n text ∙ ap (λ x. take p text ++ x) (sym f)
  where
    more : (p n : ℕ) (text : List ℕ) → take (min p (length text) + n) text ≡ take p text ++ take n (drop p text)
    more zero n text = ap (λ k. take k text) (least n (length text))
      where
        least : (n m : ℕ) → min 0 m + n ≡ n
        least n m = omega arith
    more (suc p) n [] = none (min (suc p) 0 + n) ∙ sym (none n)
      where
        none : (k : ℕ) → take {A = ℕ} k [] ≡ []
        none zero = refl
        none (suc k) = refl
    more (suc p) n (x ∷ text) = ap (λ k. take k (x ∷ text)) (lower p n (length text)) ∙ ap (λ ys. x ∷ ys) (more p n text)
      where
        lower : (p n m : ℕ) → min (suc p) (suc m) + n ≡ suc (min p m + n)
        lower p n m = omega arith

-- they came from the front of what was left
pub left_less : (p n q : ℕ) (text piece : List ℕ) → q ≡ min p (length text) + n → piece ≡ take n (drop p text) → drop p text ≡ piece ++ drop q text
left_less p n q text piece e f =
    sym (take-append-drop n (drop p text)) ∙ ap (λ x. x ++ drop n (drop p text)) (sym f) ∙ ap (λ x. piece ++ x) (less p n text ∙ ap (λ k. drop k text) (sym e))
  where
    less : (p n : ℕ) (text : List ℕ) → drop n (drop p text) ≡ drop (min p (length text) + n) text
    less zero n text = ap (λ k. drop k text) (least n (length text))
      where
        least : (n m : ℕ) → n ≡ min 0 m + n
        least n m = omega arith
    less (suc p) n [] = none n ∙ sym (none (min (suc p) 0 + n))
      where
        none : (k : ℕ) → drop {A = ℕ} k [] ≡ []
        none zero = refl
        none (suc k) = refl
    less (suc p) n (x ∷ text) = less p n text ∙ ap (λ k. drop k (x ∷ text)) (lower p n (length text))
      where
        lower : (p n m : ℕ) → suc (min p m + n) ≡ min (suc p) (suc m) + n
        lower p n m = omega arith

-- a piece has a byte at least, so that no byte comes only at the end
pub at_end : (p n q m first size : ℕ) (text : List ℕ) → q ≡ min p (length text) + n → n ≡ min (min (length (drop p text)) m) (piece_size p first size) →
    n ≡ 0 → 0 < m → drop q text ≡ []
at_end p n q m first size text e f z h =
    ap (λ k. drop k text) (e ∙ still (min p (length text)) n z) ∙ left_behind p text
    ∙ empty (drop p text) (shorter (length (drop p text)) (z_of f) (one p first size))
  where
    z_of : {k : ℕ} → n ≡ k → k ≡ 0
    z_of g = sym g ∙ z

    still : (a n : ℕ) → n ≡ 0 → a + n ≡ a
    still a n z = omega (arith, z)

    one : (p first size : ℕ) → 0 < piece_size p first size
    one zero (suc first) size = omega arith
    one zero zero size = omega arith
    one (suc p) first size = omega arith

    shorter : {s : ℕ} (k : ℕ) → min (min k m) s ≡ 0 → 0 < s → k ≡ 0
    shorter k g o = omega (arith, g, o, h)

    empty : (xs : List ℕ) → length xs ≡ 0 → xs ≡ []
    empty [] e = refl
    empty (x ∷ xs) e = absurd (omega (arith, e))

-- none of the bytes or a part of them was taken
pub part_taken : (k : ℕ) (old new bytes : List ℕ) → (new ≡ old) ⊎ (new ≡ old ++ take k bytes) → (n : ℕ) × (new ≡ old ++ take n bytes)
part_taken k old new bytes (inl e) = (0, e ∙ sym (append-nil old))
part_taken k old new bytes (inr e) = (k, e)
