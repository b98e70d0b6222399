-- Literals that tell that nothing is to be propagated from a clause.
use Rattle.std.proofs.Common.{◌≡◌, ℕ, zero, suc, ◌+◌, ◌<◌, List, [], ◌∷◌, ◌++◌, ◌⊎◌, Option, Some, None, Vec, set, take, length, get_or, refl, sym, ◌∙◌, subst, inl, inr, ⊎_elim, arith, length-append}
use Rattle.std.proofs.lemmas.List.{length-set, get_or_read}
use Rattle.varisat_theory.specs.promises.Membership.{◌∈◌}
use Rattle.varisat_theory.specs.promises.Literals.{Literal, Clause}
use Rattle.varisat_theory.specs.promises.Propagation.{HasClash, IsComplete}
use Rattle.varisat_present.specs.Places.{present, present_at}
use Rattle.varisat_present.specs.Pairs.{IsLiteralAt, HaveLiterals, IsQuietPair, IsQuietAt}
use Rattle.varisat_present.proofs.KnownGrowth.{Round, round_same, complete_open, complete_both}
use Rattle.varisat_present.proofs.PlacedClauses.{present_more, present_same, still_there}

-- 1. One clause.
complete_true : (known : List Literal) (c : Clause) (l : Literal) → (HasClash known → ⊥) → l ∈ c → l ∈ known → IsComplete (c ∷ []) known
complete_true known c l n i k = record {
  no_false = λ f. ⊎_elim (λ e. n (l, k, f.2 l (subst (λ d. l ∈ d) (sym e) i))) (λ z. absurd z) f.1;
  closed = λ d m h j u. ⊎_elim (λ e. ⊎_elim (λ q. subst (λ x. x ∈ known) q k) (λ o. absurd (n (l, k, o))) (u l (subst (λ d. l ∈ d) (sym e) i)))
      (λ z. absurd z) h;
}

pub complete_pair : (known : List Literal) (c : Clause) (l m : Literal) → (HasClash known → ⊥) → l ∈ c → m ∈ c → IsQuietPair known l m →
    IsComplete (c ∷ []) known
complete_pair known c l m n i j (inl w) = complete_open known c (l, m, i, j, w.0, w.1, w.2)
complete_pair known c l m n i j (inr k) = complete_true known c l n i k

pub pair_read : (known ones others : List Literal) (i l m : ℕ) → i < length ones → i < length others → l ≡ get_or ones i l → m ≡ get_or others i m →
    IsQuietPair known l m → IsQuietPair known (get_or ones i 0) (get_or others i 0)
pair_read known ones others i l m h k e f w =
    subst (λ x. IsQuietPair known x (get_or others i 0)) (get_or_read ones i l h e 0) (subst (IsQuietPair known l) (get_or_read others i m k f 0) w)

-- 2. Lists of literals.
read_old : (xs ys : List ℕ) (i d : ℕ) → i < length xs → get_or (xs ++ ys) i d ≡ get_or xs i d
read_old [] ys i d h = absurd (omega (arith, h))
read_old (x ∷ xs) ys zero d h = refl
read_old (x ∷ xs) ys (suc i) d h = read_old xs ys i d (omega (arith, h))

read_new : (xs : List ℕ) (l i d : ℕ) → i ≡ length xs → get_or (xs ++ (l ∷ [])) i d ≡ l
read_new [] l zero d e = refl
read_new [] l (suc i) d e = absurd (omega (arith, e))
read_new (x ∷ xs) l zero d e = absurd (omega (arith, e))
read_new (x ∷ xs) l (suc i) d e = read_new xs l i d (omega (arith, e))

less_or_last : (i n : ℕ) → i < n + 1 → (i < n) ⊎ (i ≡ n)
less_or_last i n h = grind (arith, h)

at_cases : (o : Option Clause) → (o ≡ None) ⊎ ((c : Clause) × (o ≡ Some c))
at_cases None = inl refl
at_cases (Some c) = inr (c, refl)

module _ {A : Type 0} where
  pub literals_none : (places : List (Option (Vec ℕ A))) → HaveLiterals places []
  literals_none places = record { short = omega arith; there = λ i h. absurd (omega (arith, h)) }

  pub literals_start : (places : List (Option (Vec ℕ A))) (list : List ℕ) → list ≡ [] → (length list ≡ 0) × HaveLiterals places list
  literals_start places list e = subst (λ (x : List ℕ). (length x ≡ 0) × HaveLiterals places x) (sym e) (refl, literals_none places)

  pub literals_more : (places : List (Option (Vec ℕ A))) (old new : List ℕ) (place l : ℕ) → place < length places → new ≡ old ++ (l ∷ []) →
      IsLiteralAt places place l → (length old ≡ place) × HaveLiterals places old → (length new ≡ place + 1) × HaveLiterals places new
  literals_more places old new place l h e w o =
      subst (λ (x : List ℕ). (length x ≡ place + 1) × HaveLiterals places x) (sym e) (
        (let a = length-append old (l ∷ []) in let b = o.0 in omega (arith, a, b)),
        record {
          short = (let a = length-append old (l ∷ []) in let b = o.0 in omega (arith, a, b, h));
          there = λ i k. let a = length-append old (l ∷ []) in ⊎_elim
              (λ s. subst (IsLiteralAt places i) (sym (read_old old (l ∷ []) i 0 s)) (o.1.there i s))
              (λ s. subst (λ j. IsLiteralAt places j (get_or (old ++ (l ∷ [])) i 0)) (sym (s ∙ o.0))
              (subst (IsLiteralAt places place) (sym (read_new old l i 0 s)) w))
              (less_or_last i (length old) (omega (arith, a, k)));
        },
      )

  pub literals_added : (places new : List (Option (Vec ℕ A))) (v : Vec ℕ A) (list : List ℕ) → new ≡ places ++ (Some v ∷ []) → HaveLiterals places list →
      HaveLiterals new list
  literals_added places new v list e w =
      subst (λ (x : List (Option (Vec ℕ A))). HaveLiterals x list) (sym e) record {
        short = (let a = length-append places (Some v ∷ []) in let b = w.short in omega (arith, a, b));
        there = λ i h c q. w.there i h c (before places i (let b = w.short in omega (arith, b, h)) q);
      }
    where
      before : (xs : List (Option (Vec ℕ A))) (i : ℕ) {c : Clause} → i < length xs → present_at (xs ++ (Some v ∷ [])) i ≡ Some c → present_at xs i ≡ Some c
      before [] i h q = absurd (omega (arith, h))
      before (x ∷ xs) zero h q = q
      before (x ∷ xs) (suc i) h q = before xs i (omega (arith, h)) q

  pub literals_emptied : (places : List (Option (Vec ℕ A))) (k : ℕ) (list : List ℕ) → HaveLiterals places list → HaveLiterals (set places k None) list
  literals_emptied places k list w = record {
    short = (let a = length-set places k None in let b = w.short in omega (arith, a, b));
    there = λ i h c q. w.there i h c (still_there places k i c q);
  }

  pub literals_cleared : (places : List (Option (Vec ℕ A))) (list : List ℕ) → list ≡ [] → HaveLiterals places list
  literals_cleared places list e = subst (HaveLiterals places) (sym e) (literals_none places)

  pub literals_there : (places slice : List (Option (Vec ℕ A))) (list other : List ℕ) → slice ≡ places → other ≡ list → HaveLiterals places list →
      HaveLiterals slice other
  literals_there places slice list other e q w =
      subst (λ (x : List (Option (Vec ℕ A))). HaveLiterals x other) (sym e) (subst (HaveLiterals places) (sym q) w)

  -- 3. A pass.
  pub round_quiet : (places : List (Option (Vec ℕ A))) (ones others : List ℕ) (first known : List Literal) (i : ℕ) → HaveLiterals places ones →
      HaveLiterals places others → IsQuietAt known ones others i → Round (present places) first known (present (take i places)) →
      Round (present places) first known (present (take (i + 1) places))
  round_quiet places ones others first known i v w q r =
      ⊎_elim
      (λ e. round_same (present places) first known (present (take i places)) _ (present_same places i e) r)
      (λ p. subst (Round (present places) first known) (sym (present_more places i p.0 p.1)) record {
        grows = r.grows;
        rest = ⊎_elim
            (λ a. inl (
              a.0,
              complete_both (present (take i places)) p.0 known a.1
                  (complete_pair known p.0 (get_or ones i 0) (get_or others i 0) r.grows.no_clash (v.there i q.0 p.0 p.1) (w.there i q.1 p.0 p.1) q.2),
            ))
            inr r.rest;
      })
      (at_cases (present_at places i))
