-- Known literals at the places that a map has for them.
use Rattle.std.specs.BTreeMap.{BTreeMap, get, Updates, is_at}
use Rattle.std.specs.Ordering.{nat_cmp, is_eq}
use Rattle.std.specs.Cmp.{nat_cmp_is}
use Rattle.std.specs.declared.cmp.Ordering.TheVariants.{Less, Greater}
use Rattle.std.proofs.Common.{◌≡◌, ℕ, zero, suc, ◌+◌, ◌<◌, ◌≤◌, false, List, [], ◌∷◌, ◌++◌, ◌⊎◌, Some, None, length, take, get_or, sym, ap, ◌∙◌, subst, ⊎_elim, arith, length-append}
use Rattle.std.proofs.lemmas.List.{get_or_append_left, get_or_at, get_or-take}
use Rattle.varisat_theory.specs.promises.Membership.{◌∈◌}
use Rattle.varisat_theory.proofs.clauses.Places.{∈-get_or, place_in}
use Rattle.varisat_present.specs.Places.{AreFarPlaced, place_limit}

take_short : (n : ℕ) (xs : List ℕ) (k : ℕ) → k < length (take n xs) → (k < n) × (k < length xs)
take_short zero xs k h = absurd (omega arith)
take_short (suc n) [] k h = absurd (omega arith)
take_short (suc n) (x ∷ xs) zero h = (omega arith, omega arith)
take_short (suc n) (x ∷ xs) (suc k) h = let (a, b) = take_short n xs k (omega arith) in (omega (arith, a), omega (arith, b))

cases : (xs : List ℕ) (l k : ℕ) → k < length (xs ++ (l ∷ [])) → (k < length xs) ⊎ (length xs ≡ k)
cases xs l k h = let m = length-append xs (l ∷ []) in split (length xs) (length (xs ++ (l ∷ []))) k h m
  where
    split : (a b k : ℕ) → k < b → b ≡ a + 1 → (k < a) ⊎ (a ≡ k)
    split a b k h e = grind arith

pub held_there : (xs : List ℕ) (l p v : ℕ) → p < length xs → v ≡ get_or xs p v → v ≡ l → l ∈ xs
held_there xs l p v h g e = subst (λ x. x ∈ xs) (sym g ∙ e) (∈-get_or xs p v h)

pub far_none : (m : BTreeMap ℕ ℕ) → AreFarPlaced [] m
far_none m k h s = absurd (omega arith)

pub far_cut : (xs : List ℕ) (m : BTreeMap ℕ ℕ) (n : ℕ) → AreFarPlaced xs m → AreFarPlaced (take n xs) m
far_cut xs m n w k h s =
    let (i, j) = take_short n xs k h in
    let e = get_or-take n xs k 0 i in
    subst (λ x. get nat_cmp m x ≡ Some k) (sym e) (w k j (subst (λ x. place_limit ≤ x) e s))

-- a known literal is found
pub far_place : (xs : List ℕ) (m : BTreeMap ℕ ℕ) (l : ℕ) → AreFarPlaced xs m → place_limit ≤ l → l ∈ xs →
    (k : ℕ) × (k < length xs) × (get_or xs k 0 ≡ l) × (get nat_cmp m l ≡ Some k)
far_place xs m l w s i =
    let (k, h, e) = place_in l xs 0 i in
    (k, h, e, subst (λ x. get nat_cmp m x ≡ Some k) e (w k h (subst (λ x. place_limit ≤ x) (sym e) s)))

-- a literal below the limit takes no place in the map
pub far_near : (xs new : List ℕ) (m : BTreeMap ℕ ℕ) (l : ℕ) → AreFarPlaced xs m → l < place_limit → new ≡ xs ++ (l ∷ []) → AreFarPlaced new m
far_near xs new m l w b e = subst (λ (x : List ℕ). AreFarPlaced x m) (sym e) (λ k h s.
    ⊎_elim
    (λ j. let f = get_or_append_left xs (l ∷ []) 0 k j in subst (λ x. get nat_cmp m x ≡ Some k) (sym f) (w k j (subst (λ x. place_limit ≤ x) f s)))
    (λ j. let f = get_or_at xs l [] 0 k j in let t = subst (λ x. place_limit ≤ x) f s in absurd (omega (arith, t, b)))
    (cases xs l k h))

apart : (l q : ℕ) → (q ≡ l → ⊥) → is_at (nat_cmp l) q ≡ false
apart l q n = ⊎_elim
    (λ h. ap is_eq (sym (nat_cmp_is l q Less h)))
    (λ h. ap is_eq (sym (nat_cmp_is l q Greater h)))
    (order l q n)
  where
    order : (l q : ℕ) → (q ≡ l → ⊥) → (l < q) ⊎ (q < l)
    order l q n = grind arith

-- the places of other literals stay
pub far_other : (xs : List ℕ) (m n : BTreeMap ℕ ℕ) (l place : ℕ) → AreFarPlaced xs m → (l ∈ xs → ⊥) → Updates nat_cmp m n l (Some place) → AreFarPlaced xs n
far_other xs m n l place w o (all, here, others, rest) k h s =
    others (get_or xs k 0) (apart l (get_or xs k 0) (λ e. o (subst (λ x. x ∈ xs) e (∈-get_or xs k 0 h)))) ∙ w k h s

pub far_pushed : (xs new : List ℕ) (m n : BTreeMap ℕ ℕ) (l place : ℕ) → AreFarPlaced xs m → (l ∈ xs → ⊥) → Updates nat_cmp m n l (Some place) →
    place ≡ length xs → new ≡ xs ++ (l ∷ []) → AreFarPlaced new n
far_pushed xs new m n l place w o u p e = subst (λ (x : List ℕ). AreFarPlaced x n) (sym e) (λ k h s.
    ⊎_elim
    (λ j. let f = get_or_append_left xs (l ∷ []) 0 k j in
    subst (λ x. get nat_cmp n x ≡ Some k) (sym f) (far_other xs m n l place w o u k j (subst (λ x. place_limit ≤ x) f s)))
    (λ j. let f = get_or_at xs l [] 0 k j in let (all, here, others, rest) = u in
    subst (λ x. get nat_cmp n x ≡ Some k) (sym f) (here ∙ ap Some (p ∙ j)))
    (cases xs l k h))

same : (p k : ℕ) → Some p ≡ Some k → p ≡ k
same p k e = cc

-- what the map has for a known literal is its place
pub far_read : (xs : List ℕ) (m : BTreeMap ℕ ℕ) (l code p : ℕ) → AreFarPlaced xs m → place_limit ≤ l → code ≡ l → Some p ≡ get nat_cmp m code → l ∈ xs →
    (p < length xs) × (get_or xs p 0 ≡ code)
far_read xs m l code p w s e f i =
    let (k, h, at, there) = far_place xs m l w s i in
    let q : p ≡ k = same p k (f ∙ ap (get nat_cmp m) e ∙ there) in
    (subst (λ x. x < length xs) (sym q) h, subst (λ x. get_or xs x 0 ≡ code) (sym q) (at ∙ sym e))

-- and it has something
pub far_there : (xs : List ℕ) (m : BTreeMap ℕ ℕ) (l code : ℕ) → AreFarPlaced xs m → place_limit ≤ l → code ≡ l → None ≡ get nat_cmp m code → l ∈ xs → ⊥
far_there xs m l code w s e f i =
    let (k, h, at, there) = far_place xs m l w s i in
    let z : None ≡ Some k = f ∙ ap (get nat_cmp m) e ∙ there in
    cc
