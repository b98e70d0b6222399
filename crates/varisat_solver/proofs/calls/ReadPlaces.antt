-- Lists that were read up to a place.
use Rattle.std.proofs.Common.{◌≡◌, ℕ, zero, suc, ◌+◌, ◌<◌, List, [], ◌∷◌, ◌++◌, sym, ap, ◌∙◌, length, get_or, take, arith}
use Rattle.std.proofs.lemmas.List.{take_more}

pub take-item : {X : Type 0} (xs : List X) (i : ℕ) (v : X) → i < length xs → v ≡ get_or xs i v → take (i + 1) xs ≡ take i xs ++ v ∷ []
take-item xs i v h e = take_more xs i v h ∙ ap (λ x. take i xs ++ x ∷ []) (sym e)

pub split-item : {X : Type 0} (xs : List X) (i : ℕ) (v : X) → i < length xs → v ≡ get_or xs i v → (rest : List X) × (xs ≡ take i xs ++ v ∷ rest)
split-item [] i v h e = absurd (omega (arith, h))
split-item (x ∷ xs) zero v h e = (xs, ap (λ y. y ∷ xs) (sym e))
split-item (x ∷ xs) (suc i) v h e = let (rest, q) = split-item xs i v (omega (arith, h)) e in (rest, ap (λ ys. x ∷ ys) q)
