-- Places before which no clause has a literal.
use Rattle.std.proofs.Common.{◌≡◌, ℕ, zero, suc, ◌+◌, ◌<◌, ◌≤◌, List, [], ◌∷◌, ◌++◌, ◌⊎◌, Option, Some, None, Vec, set, take, length, get_or, sym, ap, ◌∙◌, subst, inl, inr, ⊎_elim, arith}
use Rattle.std.proofs.lemmas.List.{get_or-set_same}
use Rattle.varisat_theory.specs.promises.Membership.{◌∈◌}
use Rattle.varisat_theory.specs.promises.Literals.{Literal, Clause}
use Rattle.varisat_theory.proofs.clauses.Places.{∈-take_more}
use Rattle.varisat_present.specs.Places.{present, present_at, place_limit}
use Rattle.varisat_present.proofs.PlacedClauses.{still_there}
use Rattle.varisat_rat.specs.promises.Resolving.{unseen, AreFirst, AreLowered, AreNoted, AllConflict}

-- 1. The list.
lowered_set : (xs : List ℕ) (i v l d : ℕ) → v ≤ get_or xs i d → get_or (set xs i v) l d ≤ get_or xs l d
lowered_set [] i v l d h = omega arith
lowered_set (x ∷ xs) zero v zero d h = h
lowered_set (x ∷ xs) zero v (suc l) d h = omega arith
lowered_set (x ∷ xs) (suc i) v zero d h = omega arith
lowered_set (x ∷ xs) (suc i) v (suc l) d h = lowered_set xs i v l d h

pub lowered_same : (old new : List ℕ) → ((l : ℕ) → get_or new l unseen ≡ get_or old l unseen) → AreLowered old new
lowered_same old new e l = let h = e l in omega (arith, h)

pub lowered_to : (old mid new : List ℕ) (i v : ℕ) → ((l : ℕ) → get_or mid l unseen ≡ get_or old l unseen) → v ≤ get_or mid i unseen → new ≡ set mid i v →
    AreLowered old new
lowered_to old mid new i v e h q l =
    let a = lowered_set mid i v l unseen h in
    let b = e l in
    let c = ap (λ xs. get_or xs l unseen) q in
    omega (arith, a, b, c)

pub noted_at : (mid new : List ℕ) (i v : ℕ) → i < length mid → new ≡ set mid i v → get_or new i unseen ≤ v
noted_at mid new i v h q =
    let a = get_or-set_same mid i v unseen h in
    let c = ap (λ xs. get_or xs i unseen) q in
    omega (arith, a, c)

pub lowered_none : (xs : List ℕ) → AreLowered xs xs
lowered_none xs l = omega arith

pub lowered_on : (a b c : List ℕ) → AreLowered a b → AreLowered b c → AreLowered a c
lowered_on a b c g h l = let x = g l in let y = h l in omega (arith, x, y)

pub noted_far : (literals firsts : List ℕ) (i place : ℕ) → (place_limit ≤ get_or literals i 0) → AreNoted (take i literals) place firsts →
    AreNoted (take (i + 1) literals) place firsts
noted_far literals firsts i place f w l m h =
    ⊎_elim (λ k. w l k h) (λ e. absurd (omega (arith, e, f, h))) (∈-take_more l literals i 0 m)

pub noted_more : (literals old new : List ℕ) (i code place : ℕ) → code ≡ get_or literals i 0 → AreLowered old new → get_or new code unseen ≤ place →
    AreNoted (take i literals) place old → AreNoted (take (i + 1) literals) place new
noted_more literals old new i code place q g n w l m h =
    ⊎_elim (λ k. let a = w l k h in let b = g l in omega (arith, a, b))
    (λ e. subst (λ x. get_or new x unseen ≤ place) (q ∙ sym e) n) (∈-take_more l literals i 0 m)

some_is : (c d : Clause) → Some c ≡ Some d → d ≡ c
some_is c d e = let h : c ≡ d = cc in sym h

-- 2. The clauses.
module _ {A : Type 0} where
  pub first_lowered : (places : List (Option (Vec ℕ A))) (old new : List ℕ) → AreFirst places old → AreLowered old new → AreFirst places new
  first_lowered places old new f g i c l e m h = let a = f i c l e m h in let b = g l in omega (arith, a, b)

  pub first_added : (places : List (Option (Vec ℕ A))) (v : Vec ℕ A) (clause : Clause) (firsts : List ℕ) → v.items ≡ clause → AreFirst places firsts →
      AreNoted clause (length places) firsts → AreFirst (places ++ (Some v ∷ [])) firsts
  first_added places v clause firsts q f n i c l e m h =
      let a = go places i 0 e (λ j k. let b = f j c l k m h in omega (arith, b)) (λ k. let b = n l (subst (λ x. l ∈ x) (k ∙ q) m) h in omega (arith, b)) in
      omega (arith, a)
    where
      go : (xs : List (Option (Vec ℕ A))) (j k : ℕ) → present_at (xs ++ (Some v ∷ [])) j ≡ Some c →
          ((j' : ℕ) → present_at xs j' ≡ Some c → get_or firsts l unseen ≤ k + j') → (c ≡ v.items → get_or firsts l unseen ≤ k + length xs) →
          get_or firsts l unseen ≤ k + j
      go [] zero k e f n = n (some_is v.items c e)
      go [] (suc j) k e f n = absurd cc
      go (x ∷ xs) zero k e f n = f zero e
      go (x ∷ xs) (suc j) k e f n =
          let a = go xs j (suc k) e (λ j' w. let b = f (suc j') w in omega (arith, b)) (λ w. let b = n w in omega (arith, b)) in omega (arith, a)

  pub first_fewer : (places fewer : List (Option (Vec ℕ A))) (firsts : List ℕ) → ((i : ℕ) (c : Clause) → present_at fewer i ≡ Some c →
      present_at places i ≡ Some c) → AreFirst places firsts → AreFirst fewer firsts
  first_fewer places fewer firsts g f i c l e m h = f i c l (g i c e) m h

  pub first_emptied : (places : List (Option (Vec ℕ A))) (k : ℕ) (firsts : List ℕ) → AreFirst places firsts → AreFirst (set places k None) firsts
  first_emptied places k firsts f i c l e m h = f i c l (still_there places k i c e) m h

  -- a clause among the first ones has a place
  placed : (places : List (Option (Vec ℕ A))) (k : ℕ) (c : Clause) → c ∈ present (take k places) → (i : ℕ) × (i < k) × (present_at places i ≡ Some c)
  placed [] zero c m = absurd m
  placed [] (suc k) c m = absurd m
  placed (x ∷ xs) zero c m = absurd m
  placed (None ∷ xs) (suc k) c m = let (i, h, e) = placed xs k c m in (suc i, omega (arith, h), e)
  placed (Some v ∷ xs) (suc k) c (inl q) = (zero, omega arith, ap Some (sym q))
  placed (Some v ∷ xs) (suc k) c (inr m) = let (i, h, e) = placed xs k c m in (suc i, omega (arith, h), e)

  pub none_before : (places slice : List (Option (Vec ℕ A))) (firsts : List ℕ) (base : List Literal) (l first : ℕ) → slice ≡ places →
      AreFirst places firsts → (place_limit ≤ l → first ≡ 0) → (l < place_limit → first ≡ get_or firsts l unseen) →
      AllConflict (present slice) (present (take first slice)) base l
  none_before places slice firsts base l first q f far near d m o =
      let (i, h, e) = placed slice first d m in
      ⊎_elim
      (λ n. let a = f i d l (subst (λ (x : List (Option (Vec ℕ A))). present_at x i ≡ Some d) q e) o n in let b = near n in absurd (omega (arith, a, b, h)))
      (λ n. let b = far n in absurd (omega (arith, b, h)))
      (less_or_not l place_limit)
    where
      less_or_not : (x y : ℕ) → (x < y) ⊎ (y ≤ x)
      less_or_not x y = grind arith

  pub first_pushed : (places new : List (Option (Vec ℕ A))) (v : Vec ℕ A) (clause : Clause) (old firsts : List ℕ) (place : ℕ) →
      new ≡ places ++ (Some v ∷ []) → v.items ≡ clause → place ≡ length places → AreFirst places old → AreLowered old firsts →
      AreNoted clause place firsts → AreFirst new firsts
  first_pushed places new v clause old firsts place e q p f g n =
      subst (λ (x : List (Option (Vec ℕ A))). AreFirst x firsts) (sym e)
      (first_added places v clause firsts q (first_lowered places old firsts f g) (subst (λ k. AreNoted clause k firsts) p n))

  pub first_within : (places slice fewer whole : List (Option (Vec ℕ A))) (firsts : List ℕ) → whole ≡ fewer → slice ≡ places →
      ((i : ℕ) (c : Clause) → present_at fewer i ≡ Some c → present_at slice i ≡ Some c) → AreFirst places firsts → AreFirst whole firsts
  first_within places slice fewer whole firsts e q g f =
      subst (λ (x : List (Option (Vec ℕ A))). AreFirst x firsts) (sym e)
      (first_fewer places fewer firsts (λ i c h. subst (λ (x : List (Option (Vec ℕ A))). present_at x i ≡ Some c) q (g i c h)) f)

  pub none_there : (places slice : List (Option (Vec ℕ A))) (firsts : List ℕ) (base : List Literal) (l m first : ℕ) → slice ≡ places → l ≡ m →
      AreFirst places firsts → (place_limit ≤ l → first ≡ 0) → (l < place_limit → first ≡ get_or firsts l unseen) →
      AllConflict (present slice) (present (take first slice)) base m
  none_there places slice firsts base l m first q e f far near =
      subst (λ (x : Literal). AllConflict (present slice) (present (take first slice)) base x) e (none_before places slice firsts base l first q f far near)
