-- Literals that are no fault.
use Rattle.std.proofs.Common.{◌≡◌, ℕ, zero, suc, ◌+◌, ◌-◌, ◌/◌, ◌<◌, ◌≤◌, max, List, [], ◌∷◌, ◌++◌, Bool, true, false, ◌&&◌, not, nat_lt, nat_le, if◌then◌else◌, refl, sym, ap, ◌∙◌, arith, rules, Option, Some, None}
use Rattle.varisat_theory.specs.promises.Literals.{literal_of}
use Rattle.varisat_literals.specs.promises.Numbers.{variable_limit}
use Rattle.varisat_formula.specs.declared.dimacs.error.DimacsErrorKind.TheVariants.{VarCount, ClauseCount}
use Rattle.varisat_formula.specs.declared.dimacs.header.Sizes.{Sizes}
use Rattle.varisat_formula.specs.declared.dimacs.token.Meaning.TheVariants.{TooLarge, Literal}
use Rattle.varisat_formula.specs.promises.Dimacs.{Reading, is_none_open, is_one_too_many, is_above, in_range, after_token, failed, Item, Token, read, step_by}
use Rattle.varisat_formula.specs.inside.Machine.{word_says, a_number, is_none}
use Rattle.varisat_formula.specs.promises.Rest.{Allows, word_items}

in_limit : (b : Bool) (n : ℕ) → n ≤ variable_limit → in_range b n ≡ Literal (literal_of (n - 1) b)
in_limit b n h =
    let e : nat_lt variable_limit n ≡ false = search (rules, h) in
    ap (λ t. if t then TooLarge else Literal (literal_of (n - 1) b)) e

number_says : (m : Bool) (n : ℕ) → 0 < n → n ≤ variable_limit → word_says (a_number m n) ≡ Literal (literal_of (n - 1) (not m))
number_says m zero p h = absurd (omega (arith, p))
number_says true (suc n) p h = in_limit false (suc n) h
number_says false (suc n) p h = in_limit true (suc n) h

pub number_of_literal : (n : ℕ) (b : Bool) → 0 < n → literal_of (n - 1) b / 2 + 1 ≡ n
number_of_literal n true p = omega (arith, p)
number_of_literal n false p = omega (arith, p)

-- such a literal is kept
allowed_is_kept : (r : Reading) (n line l : ℕ) → Allows r n → l / 2 + 1 ≤ n →
    after_token r line (Literal l) ≡ record r { begun = r.begun ++ l ∷ []; highest = max r.highest (l / 2 + 1) }
allowed_is_kept r n line l a h =
    let kept : Reading = record r { begun = r.begun ++ l ∷ []; highest = max r.highest (l / 2 + 1) } in
    ap (λ t. if t then failed r line ClauseCount else (if is_above r.header (l / 2 + 1) then failed r line VarCount else kept)) (a.room (omega (arith, h)))
    ∙ ap (λ t. if t then failed r line VarCount else kept) (a.below (l / 2 + 1) h)

pub takes_allowed : (r : Reading) (allowed line l n : ℕ) (m : Bool) → Allows r allowed → n ≤ allowed → 0 < n → l ≡ literal_of (n - 1) (not m) →
    record r { begun = r.begun ++ l ∷ []; highest = max r.highest n } ≡ after_token r line (word_says (a_number m n))
takes_allowed r allowed line l n m a h p e =
    let is_number : l / 2 + 1 ≡ n = ap (λ x. x / 2 + 1) e ∙ number_of_literal n (not m) p in
    ap (λ x. record r { begun = r.begun ++ l ∷ []; highest = max r.highest x }) (sym is_number)
    ∙ sym (allowed_is_kept r allowed line l a (omega (arith, h, is_number)))
    ∙ ap (λ x. after_token r line (Literal x)) e
    ∙ ap (λ x. after_token r line x) (sym (number_says m n p (omega (arith, h, a.small))))

-- behind it as many are allowed
pub still_open : (header : Option Sizes) (begun : List ℕ) (l count : ℕ) → is_one_too_many header (begun ++ l ∷ []) count ≡ false
still_open None begun l count = refl
still_open (Some s) begun l count = ap (λ t. t && nat_le s.clauses count) (some_open begun)
  where
    some_open : (begun : List ℕ) → is_none_open (begun ++ l ∷ []) ≡ false
    some_open [] = refl
    some_open (x ∷ xs) = refl

-- a number between two blanks
pub reads_number : (r : Reading) (line n : ℕ) (m : Bool) → r.fault ≡ None →
    read r (word_items line (a_number m n)) ≡ after_token r line (word_says (a_number m n))
reads_number r line n m h =
    let item : Item = Token line (word_says (a_number m n)) in
    ap (λ t. read r (if t then [] else item ∷ [])) (some_number m) ∙ ap (λ f. step_by f r item) h
  where
    some_number : (m : Bool) → is_none (a_number m n) ≡ false
    some_number true = refl
    some_number false = refl
