-- Lists of literals that are printed one after the other.
use Rattle.std.proofs.Common.{◌≡◌, ℕ, zero, suc, ◌<◌, ◌≤◌, List, [], ◌∷◌, ◌++◌, get_or, take, length, flat_map, refl, sym, ap, ◌∙◌, append_assoc, arith}
use Rattle.std.proofs.lemmas.Grind.{flat_map-append}
use Rattle.varisat_solver.proofs.calls.ReadPlaces.{split-item}

-- what comes behind the text of one item
pub behind-item : (f : ℕ → List ℕ) (end : List ℕ) (xs : List ℕ) (i v : ℕ) → i < length xs → v ≡ get_or xs i v → (more : List ℕ)
    × ((flat_map f (take i xs) ++ f v) ++ more ≡ flat_map f xs ++ end)
behind-item f end xs i v h e =
    let (rest, q) = split-item xs i v h e in
    let front = flat_map f (take i xs) in (
      flat_map f rest ++ end,
      append_assoc front (f v) (flat_map f rest ++ end) ∙ ap (λ ys. front ++ ys) (sym (append_assoc (f v) (flat_map f rest) end))
          ∙ sym (append_assoc front (f v ++ flat_map f rest) end)
          ∙ ap (λ ys. ys ++ end) (sym (flat_map-append f (take i xs) (v ∷ rest)) ∙ ap (λ ys. flat_map f ys) (sym q)),
    )

pub all-taken : (xs : List ℕ) (i : ℕ) → length xs ≤ i → take i xs ≡ xs
all-taken [] zero n = refl
all-taken [] (suc i) n = refl
all-taken (x ∷ xs) zero n = absurd (omega (arith, n))
all-taken (x ∷ xs) (suc i) n = ap (λ ys. x ∷ ys) (all-taken xs i (omega (arith, n)))
