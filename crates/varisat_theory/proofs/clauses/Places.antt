-- Membership by places, and in std's words.
use Rattle.std.proofs.Common.{◌≡◌, ℕ, zero, suc, ◌+◌, ◌<◌, ◌≤◌, List, [], ◌∷◌, ◌++◌, ◌⊎◌, inl, inr, ⊎_elim, sym, ap, subst, refl, length, get_or, take, take_all, drop, add-one, Contains, arith}
use Rattle.varisat_theory.specs.promises.Membership.{◌∈◌}

pub ∈-contains : {X : Type 0} (x : X) (xs : List X) → Contains xs x → x ∈ xs
∈-contains {X = X} x xs h = go xs h.0 h.1 h.2
  where
    go : (ys : List X) (k : ℕ) → k < length ys → get_or ys k x ≡ x → x ∈ ys
    go [] k l e = absurd (omega arith)
    go (y ∷ ys) zero l e = inl (sym e)
    go (y ∷ ys) (suc k) l e = inr (go ys k (omega arith) e)

pub contains-∈ : {X : Type 0} (x : X) (xs : List X) → x ∈ xs → Contains xs x
contains-∈ x [] h = absurd h
contains-∈ x (y ∷ ys) (inl e) = (zero, omega arith, sym e)
contains-∈ x (y ∷ ys) (inr h) = let r = contains-∈ x ys h in (suc r.0, omega (arith, r.1), r.2)

pub ∈-get_or : {X : Type 0} (xs : List X) (i : ℕ) (d : X) → i < length xs → get_or xs i d ∈ xs
∈-get_or [] i d h = absurd (omega arith)
∈-get_or (x ∷ xs) zero d h = inl refl
∈-get_or (x ∷ xs) (suc i) d h = inr (∈-get_or xs i d (omega arith))

-- an element among one more is an earlier one or the last
pub ∈-take_more : {X : Type 0} (x : X) (xs : List X) (i : ℕ) (d : X) → x ∈ take (i + 1) xs → (x ∈ take i xs) ⊎ (x ≡ get_or xs i d)
∈-take_more {X = X} x xs i d h = go xs i (subst (λ n. x ∈ take n xs) (add-one i) h)
  where
    go : (ys : List X) (k : ℕ) → x ∈ take (suc k) ys → (x ∈ take k ys) ⊎ (x ≡ get_or ys k d)
    go [] k m = absurd m
    go (y ∷ ys) zero (inl e) = inr e
    go (y ∷ ys) zero (inr m) = absurd m
    go (y ∷ ys) (suc k) (inl e) = inl (inl e)
    go (y ∷ ys) (suc k) (inr m) = ⊎_elim (λ a. inl (inr a)) inr (go ys k m)

pub ∈-take_all : {X : Type 0} (x : X) (xs : List X) (i : ℕ) → length xs ≤ i → x ∈ xs → x ∈ take i xs
∈-take_all x xs i h m = subst (λ l. x ∈ l) (sym (take_all i xs h)) m

-- an element's place
pub place_in : {X : Type 0} (x : X) (xs : List X) (d : X) → x ∈ xs → (j : ℕ) × (j < length xs) × (get_or xs j d ≡ x)
place_in x [] d h = absurd h
place_in x (y ∷ ys) d (inl e) = (zero, omega arith, sym e)
place_in x (y ∷ ys) d (inr h) = let r = place_in x ys d h in (suc r.0, omega (arith, r.1), r.2)

pub place_in_take : {X : Type 0} (x : X) (xs : List X) (k : ℕ) (d : X) → x ∈ take k xs → (j : ℕ) × (j < k) × (j < length xs) × (get_or xs j d ≡ x)
place_in_take x [] zero d h = absurd h
place_in_take x [] (suc k) d h = absurd h
place_in_take x (y ∷ ys) zero d h = absurd h
place_in_take x (y ∷ ys) (suc k) d (inl e) = (zero, omega arith, omega arith, sym e)
place_in_take x (y ∷ ys) (suc k) d (inr h) =
    let r = place_in_take x ys k d h in
    (suc r.0, omega (arith, r.1), omega (arith, r.2), r.3)

-- a list is cut at a place
pub cut_at : {X : Type 0} (xs : List X) (i : ℕ) (d : X) → i < length xs → xs ≡ take i xs ++ (get_or xs i d ∷ drop (suc i) xs)
cut_at [] i d h = absurd (omega arith)
cut_at (x ∷ xs) zero d h = refl
cut_at (x ∷ xs) (suc i) d h = ap (λ l. x ∷ l) (cut_at xs i d (omega arith))
