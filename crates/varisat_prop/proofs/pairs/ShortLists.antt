-- Where the items of a short list stand.
use Rattle.std.proofs.Common.{◌≡◌, ℕ, ◌+◌, ◌<◌, ◌≤◌, nat_le, false, if◌then◌else◌, List, [], ◌∷◌, ◌++◌, length, take, set, sym, ap, ◌∙◌, le-leb, arith, rules}
use Rattle.std.proofs.lemmas.List.{take_all, take_more_set}
use Rattle.varisat_prop.specs.ShortLists.{short_list}

module _ {X : Type 0} (limit : ℕ) where
  -- in place where they are few
  pub short_few : (few many : List X) (count : ℕ) → count ≤ limit → short_list limit few count many ≡ take count few
  short_few few many count h = ap (λ b. if b then take count few else many) (le-leb count limit h)

  -- in the other list where they are more
  pub short_many : (few many : List X) (count : ℕ) → limit < count → short_list limit few count many ≡ many
  short_many few many count h = ap (λ b. if b then take count few else many) (more count limit h)
    where
      more : (n l : ℕ) → l < n → nat_le n l ≡ false
      more n l h = search (rules, h)

  -- one more in the other list
  pub short_pushed : (few many new : List X) (count : ℕ) (x : X) → limit < count → new ≡ many ++ x ∷ []
      → short_list limit few count new ≡ short_list limit few count many ++ x ∷ []
  short_pushed few many new count x h e =
      short_many few new count h ∙ e ∙ ap (λ (xs : List X). xs ++ x ∷ []) (sym (short_many few many count h))

  -- one more in place
  pub short_put : (few many : List X) (count : ℕ) (x : X) → count < limit → count < length few
      → short_list limit (set few count x) (count + 1) many ≡ short_list limit few count many ++ x ∷ []
  short_put few many count x s h =
      short_few (set few count x) many (count + 1) (omega (arith, s)) ∙ take_more_set few count x h
      ∙ ap (λ (xs : List X). xs ++ x ∷ []) (sym (short_few few many count (omega (arith, s))))

  -- all move to the other list, with one more
  pub short_moved : (few many new : List X) (count : ℕ) (x : X) → count ≡ limit → length few ≤ count → new ≡ few ++ x ∷ []
      → short_list limit few (count + 1) new ≡ short_list limit few count many ++ x ∷ []
  short_moved few many new count x s h n =
      short_many few new (count + 1) (omega (arith, s)) ∙ n
      ∙ ap (λ (xs : List X). xs ++ x ∷ []) (sym (short_few few many count (omega (arith, s)) ∙ take_all count few h))
