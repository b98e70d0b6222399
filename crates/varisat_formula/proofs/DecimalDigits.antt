-- Decimal text is read as its number.
use Rattle.std.proofs.Common.{◌≡◌, ℕ, zero, suc, ◌+◌, ◌-◌, ◌*◌, ◌/◌, ◌%◌, ◌^◌, ◌<◌, List, [], ◌∷◌, ◌++◌, Bool, true, false, ◌==◌, if◌then◌else◌, refl, ap, ◌∙◌, Option, Some, None, get_or, arith, rules, decimal, pos, negsuc}
use Rattle.std.proofs.lemmas.Fmt.{decimal_by_steps, first_decimal, decimal_digit}
use Rattle.std.specs.Fmt.{signed_decimal}
use Rattle.varisat_formula.specs.promises.Dimacs.{is_digit, digits_after, number}
use Rattle.varisat_literals.specs.promises.Numbers.{literal_text}

is_digit_of : (n : ℕ) → n < 10 → is_digit (48 + n) ≡ true
is_digit_of n h = search (rules, h)

some_is : (n v : ℕ) → Some n ≡ Some v → n ≡ v
some_is n v e = cc

one_digit : (a k d : ℕ) → Some a ≡ Some k → is_digit d ≡ true → (if is_digit d then Some (10 * a + (d - 48)) else None) ≡ Some (10 * k + (d - 48))
one_digit a k d e h = ap (λ t. if t then Some (10 * a + (d - 48)) else None) h ∙ ap (λ x. Some (10 * x + (d - 48))) (some_is a k e)

digit_case : (t : Bool) (x y : Option ℕ) (k m : ℕ) → (if t then x else None) ≡ Some k → (x ≡ Some k → y ≡ Some m) → (if t then y else None) ≡ Some m
digit_case true x y k m e f = f e
digit_case false x y k m e f = absurd cc

digits_then : (a k d : ℕ) (ds : List ℕ) → digits_after a ds ≡ Some k → is_digit d ≡ true → digits_after a (ds ++ d ∷ []) ≡ Some (10 * k + (d - 48))
digits_then a k d [] e h = one_digit a k d e h
digits_then a k d (b ∷ bs) e h =
    digit_case (is_digit b) (digits_after (10 * a + (b - 48)) bs) (digits_after (10 * a + (b - 48)) (bs ++ d ∷ [])) k (10 * k + (d - 48)) e
    (λ f. digits_then (10 * a + (b - 48)) k d bs f h)

digits_one : (k : ℕ) → k < 10 → digits_after 0 ((48 + k) ∷ []) ≡ Some k
digits_one k l = ap (λ t. if t then Some (10 * 0 + (48 + k - 48)) else None) (is_digit_of k l) ∙ ap Some (omega arith)

pub digits_decimal : (n : ℕ) → n < 2 ^ 64 → digits_after 0 (decimal n) ≡ Some n
digits_decimal n h =
    decimal_by_steps (λ k ds. digits_after 0 ds ≡ Some k) (λ k l. digits_one k l)
    (λ k ds l e. digits_then 0 (k / 10) (48 + k % 10) ds e (is_digit_of (k % 10) (omega arith)) ∙ ap Some (omega arith)) n h

number_plain : (ds : List ℕ) → 48 < get_or ds 0 0 → number ds ≡ digits_after 0 ds
number_plain [] h = absurd (omega arith)
number_plain (d ∷ []) h = refl
number_plain (d ∷ e ∷ ds) h = let f : (d == 48) ≡ false = search (rules, h) in ap (λ t. if t then None else digits_after 0 (d ∷ e ∷ ds)) f

-- what is written for a number is read as it
pub number_decimal : (n : ℕ) → n < 2 ^ 64 → number (decimal n) ≡ Some n
number_decimal zero h = ap number (decimal_digit 0 (omega arith))
number_decimal (suc n) h = number_plain (decimal (suc n)) (first_decimal (suc n) (omega arith) h) ∙ digits_decimal (suc n) h

-- a literal's text by its sign
pub literal_text_is : (l : ℕ) → literal_text l ≡ (if l % 2 == 0 then decimal (l / 2 + 1) else 45 ∷ decimal (l / 2 + 1))
literal_text_is l = by_sign (l % 2 == 0)
  where
    more : (n : ℕ) → suc n ≡ n + 1
    more n = omega arith

    by_sign : (t : Bool) → signed_decimal (if t then pos (l / 2 + 1) else negsuc (l / 2)) ≡ (if t then decimal (l / 2 + 1) else 45 ∷ decimal (l / 2 + 1))
    by_sign true = refl
    by_sign false = ap (λ n. 45 ∷ decimal n) (more (l / 2))
