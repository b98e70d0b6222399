-- Lists with more of the default at their end: each index reads what it read before.
use Rattle.std.proofs.Common.{◌≡◌, ℕ, zero, suc, ◌≤◌, List, [], ◌∷◌, ◌++◌, length, replicate, take, take_all, get_or, ap, ◌∙◌, refl}

only-default : {X : Type 0} (d : X) (n i : ℕ) → get_or (replicate n d) i d ≡ d
only-default d zero i = refl
only-default d (suc n) zero = refl
only-default d (suc n) (suc i) = only-default d n i

pub padded : {X : Type 0} (d : X) (xs : List X) (n i : ℕ) → get_or (xs ++ replicate n d) i d ≡ get_or xs i d
padded d [] n i = only-default d n i
padded d (x ∷ xs) n zero = refl
padded d (x ∷ xs) n (suc i) = padded d xs n i

-- a list that was made longer
pub resized : {X : Type 0} (d : X) (xs new : List X) (n m : ℕ) → length xs ≤ n → new ≡ take n xs ++ replicate m d → (i : ℕ) →
    get_or new i d ≡ get_or xs i d
resized d xs new n m h e i = ap (λ ys. get_or ys i d) e ∙ ap (λ ys. get_or (ys ++ replicate m d) i d) (take_all n xs h) ∙ padded d xs m i
