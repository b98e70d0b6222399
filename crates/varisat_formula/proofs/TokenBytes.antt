-- Tokens, a byte at a time.
use Rattle.std.proofs.Common.{◌≡◌, ℕ, zero, suc, ◌+◌, ◌-◌, ◌*◌, ◌^◌, ◌<◌, ◌≤◌, List, [], ◌∷◌, ◌++◌, Bool, true, false, ◌&&◌, ◌==◌, nat_lt, if◌then◌else◌, refl, sym, ap, ◌∙◌, append_assoc, append-nil, Option, Some, None, option_map, min, arith, rules}
use Rattle.std.proofs.lemmas.Bool.{lt-ltb}
use Rattle.varisat_theory.specs.promises.Literals.{literal_of}
use Rattle.varisat_literals.specs.promises.Numbers.{variable_limit}
use Rattle.varisat_formula.specs.declared.dimacs.token.Digits.{Digits}
use Rattle.varisat_formula.specs.declared.dimacs.token.Digits.TheVariants.{Empty, Number, Large, NoNumber}
use Rattle.varisat_formula.specs.declared.dimacs.token.Word.{Word}
use Rattle.varisat_formula.specs.declared.dimacs.token.Meaning.TheVariants.{TooLarge, Literal}
use Rattle.varisat_formula.specs.promises.Dimacs.{put, split, is_blank, nonempty, ended_pieces, tokens, is_digit, digits_after, number, in_range, positive, negative, meaning, Token, token_items}
use Rattle.varisat_formula.specs.inside.Machine.{after_digit, grown, digits_from, says, is_empty, no_word, is_none, after_byte, word_from, word_says}
use Rattle.varisat_formula.specs.promises.Rest.{word_items, plain_rest}

-- 1. Digits.
-- one digit more, below 2^64
pub grown_below : (n d : ℕ) → (n ≡ 0 → ⊥) → n * 10 + d < 2 ^ 64 → Number (n * 10 + d) ≡ grown n d
grown_below zero d h b = absurd (h refl)
grown_below (suc n) d h b =
    let e : suc n * 10 + d ≡ 10 * suc n + d = omega arith in
    ap Number e ∙ sym (ap (λ t. if t then Number (10 * suc n + d) else Large) (lt-ltb (10 * suc n + d) (2 ^ 64) (omega (arith, b, e))))

abbrev pub capped : ℕ → ℕ
capped n = min n (2 ^ 64)

none_stays : (bs : List ℕ) → says (digits_from NoNumber bs) ≡ None
none_stays [] = refl
none_stays (b ∷ bs) = none_stays bs

-- behind digits that write m
abbrev pub state_of : ℕ → Digits
state_of m = if nat_lt m (2 ^ 64) then Number m else Large

next_case : (t : Bool) (k b : ℕ) → nat_lt (suc k) (2 ^ 64) ≡ t →
    after_digit (state_of (suc k)) b ≡ (if is_digit b then state_of (10 * suc k + (b - 48)) else NoNumber)
next_case true k b e = ap (λ t. after_digit (if t then Number (suc k) else Large) b) e
next_case false k b e =
    let f : nat_lt (10 * suc k + (b - 48)) (2 ^ 64) ≡ false = not_below (suc k) (10 * suc k + (b - 48)) e (omega arith) in
    ap (λ t. after_digit (if t then Number (suc k) else Large) b) e
    ∙ sym (ap (λ t. if is_digit b then (if t then Number (10 * suc k + (b - 48)) else Large) else NoNumber) f)
  where
    not_below : (m n : ℕ) → nat_lt m (2 ^ 64) ≡ false → m ≤ n → nat_lt n (2 ^ 64) ≡ false
    not_below m n e h = search (rules, e, h)

next_state : (m b : ℕ) → 0 < m → after_digit (state_of m) b ≡ (if is_digit b then state_of (10 * m + (b - 48)) else NoNumber)
next_state zero b h = absurd (omega arith)
next_state (suc k) b h = next_case (nat_lt (suc k) (2 ^ 64)) k b refl

digit_case : (t : Bool) (x : Option ℕ) (d : Digits) (bs : List ℕ) → option_map capped x ≡ says (digits_from d bs) →
    option_map capped (if t then x else None) ≡ says (digits_from (if t then d else NoNumber) bs)
digit_case true x d bs h = h
digit_case false x d bs h = sym (none_stays bs)

state_case : (t : Bool) (m : ℕ) → nat_lt m (2 ^ 64) ≡ t → Some (capped m) ≡ says (if t then Number m else Large)
state_case true m e = ap Some (below m e)
  where
    below : (m : ℕ) → nat_lt m (2 ^ 64) ≡ true → min m (2 ^ 64) ≡ m
    below m e = let h : m < 2 ^ 64 = search (rules, e) in omega arith
state_case false m e = ap Some (above m e)
  where
    above : (m : ℕ) → nat_lt m (2 ^ 64) ≡ false → min m (2 ^ 64) ≡ 2 ^ 64
    above m e = let h : 2 ^ 64 ≤ m = search (rules, e) in omega arith

digits_agree : (m : ℕ) (bs : List ℕ) → 0 < m → option_map capped (digits_after m bs) ≡ says (digits_from (state_of m) bs)
digits_agree m [] h = state_case (nat_lt m (2 ^ 64)) m refl
digits_agree m (b ∷ bs) h =
    digit_case (is_digit b) (digits_after (10 * m + (b - 48)) bs) (state_of (10 * m + (b - 48))) bs (digits_agree (10 * m + (b - 48)) bs (omega arith))
    ∙ sym (ap (λ d. says (digits_from d bs)) (next_state m b h))

pub digit_bound : (b : ℕ) → is_digit b ≡ true → (48 ≤ b) × (b ≤ 57)
digit_bound b e = search (rules, e)

one_digit : (t : Bool) (b : ℕ) → is_digit b ≡ t → option_map capped (if t then Some (10 * 0 + (b - 48)) else None) ≡ says
    (if t then Number (b - 48) else NoNumber)
one_digit true b e = let h = digit_bound b e in ap Some (omega (arith, h))
one_digit false b e = refl

leading_zero : (t : Bool) (ds : List ℕ) → None ≡ says (digits_from (if t then NoNumber else NoNumber) ds)
leading_zero true ds = sym (none_stays ds)
leading_zero false ds = sym (none_stays ds)

more_digits : (t : Bool) (b e : ℕ) (ds : List ℕ) → is_digit b ≡ t → (b == 48) ≡ false →
    option_map capped (if t then digits_after (10 * 0 + (b - 48)) (e ∷ ds) else None) ≡ says (digits_from (if t then Number (b - 48) else NoNumber) (e ∷ ds))
more_digits true b e ds f h =
    let k = digit_bound b f in
    let n = not_zero b h in
    let m = 10 * 0 + (b - 48) in
    let p : 0 < 10 * 0 + (b - 48) = positive_digit b n k.0 in
    let q : nat_lt (10 * 0 + (b - 48)) (2 ^ 64) ≡ true = small_digit b k.1 in
    let r : 10 * 0 + (b - 48) ≡ b - 48 = omega arith in
    digits_agree (10 * 0 + (b - 48)) (e ∷ ds) p
    ∙ ap (λ t. says (digits_from (if t then Number (10 * 0 + (b - 48)) else Large) (e ∷ ds))) q
    ∙ ap (λ n. says (digits_from (Number n) (e ∷ ds))) r
  where
    not_zero : (b : ℕ) → (b == 48) ≡ false → b ≡ 48 → ⊥
    not_zero b h k = let f : (b == 48) ≡ true = search (rules, k) in absurd cc

    positive_digit : (b : ℕ) → (b ≡ 48 → ⊥) → 48 ≤ b → 0 < 10 * 0 + (b - 48)
    positive_digit b n h = grind (arith, n)

    small_digit : (b : ℕ) → b ≤ 57 → nat_lt (10 * 0 + (b - 48)) (2 ^ 64) ≡ true
    small_digit b h = search (rules, h)
more_digits false b e ds f h = sym (none_stays (e ∷ ds))

zero_case : (t : Bool) (b e : ℕ) (ds : List ℕ) → (b == 48) ≡ t →
    option_map capped (if t then None else digits_after 0 (b ∷ e ∷ ds)) ≡ says (digits_from Empty (b ∷ e ∷ ds))
zero_case true b e ds h =
    leading_zero (is_digit e) ds ∙ sym (ap (λ x. says (digits_from Empty (x ∷ e ∷ ds))) (is_zero b h))
  where
    is_zero : (b : ℕ) → (b == 48) ≡ true → b ≡ 48
    is_zero b h = search (rules, h)
zero_case false b e ds h = more_digits (is_digit b) b e ds refl h

pub number_agrees : (bs : List ℕ) → option_map capped (number bs) ≡ says (digits_from Empty bs)
number_agrees [] = refl
number_agrees (b ∷ []) = one_digit (is_digit b) b refl
number_agrees (b ∷ e ∷ ds) = zero_case (b == 48) b e ds refl

-- 2. Tokens.
range_case : (t : Bool) (s : Bool) (n : ℕ) → nat_lt (2 ^ 64) (suc n) ≡ t → in_range s (capped (suc n)) ≡ in_range s (suc n)
range_case true s n e = large s (capped (suc n)) (over n e) ∙ sym (large s (suc n) (above n e))
  where
    above : (n : ℕ) → nat_lt (2 ^ 64) (suc n) ≡ true → variable_limit < suc n
    above n e = let h : 2 ^ 64 < suc n = search (rules, e) in omega arith

    over : (n : ℕ) → nat_lt (2 ^ 64) (suc n) ≡ true → variable_limit < min (suc n) (2 ^ 64)
    over n e = let h : 2 ^ 64 < suc n = search (rules, e) in omega arith

    large : (s : Bool) (m : ℕ) → variable_limit < m → in_range s m ≡ TooLarge
    large s m h = let f : nat_lt variable_limit m ≡ true = search (rules, h) in ap (λ t. if t then TooLarge else Literal (literal_of (m - 1) s)) f
range_case false s n e = ap (λ m. in_range s m) (small n e)
  where
    small : (n : ℕ) → nat_lt (2 ^ 64) (suc n) ≡ false → min (suc n) (2 ^ 64) ≡ suc n
    small n e = let h : suc n ≤ 2 ^ 64 = search (rules, e) in omega arith

at_capped : (n m : ℕ) → m ≡ capped (suc n) → (positive (Some m) ≡ in_range true m) × (negative (Some m) ≡ in_range false m)
at_capped n zero e = absurd (omega arith)
at_capped n (suc m) e = (refl, refl)

positive_capped : (o : Option ℕ) → positive (option_map capped o) ≡ positive o
positive_capped None = refl
positive_capped (Some zero) = refl
positive_capped (Some (suc n)) = (at_capped n (capped (suc n)) refl).0 ∙ range_case (nat_lt (2 ^ 64) (suc n)) true n refl

negative_capped : (o : Option ℕ) → negative (option_map capped o) ≡ negative o
negative_capped None = refl
negative_capped (Some zero) = refl
negative_capped (Some (suc n)) = (at_capped n (capped (suc n)) refl).1 ∙ range_case (nat_lt (2 ^ 64) (suc n)) false n refl

-- behind a minus sign, or behind a digit, a token goes on by its digits
behind_minus : (d : Digits) (bs : List ℕ) → word_from (record { minus = true; digits = d }) bs ≡ record { minus = true; digits = digits_from d bs }
behind_minus d [] = refl
behind_minus d (b ∷ bs) = behind_minus (after_digit d b) bs

pub not_empty : (d : Digits) (b : ℕ) → is_empty (after_digit d b) ≡ false
not_empty Empty b = go (is_digit b)
  where
    go : (t : Bool) → is_empty (if t then Number (b - 48) else NoNumber) ≡ false
    go true = refl
    go false = refl
not_empty (Number zero) b = go (is_digit b)
  where
    go : (t : Bool) → is_empty (if t then NoNumber else NoNumber) ≡ false
    go true = refl
    go false = refl
not_empty (Number (suc n)) b = go (is_digit b) (nat_lt (10 * suc n + (b - 48)) (2 ^ 64))
  where
    go : (t u : Bool) → is_empty (if t then (if u then Number (10 * suc n + (b - 48)) else Large) else NoNumber) ≡ false
    go true true = refl
    go true false = refl
    go false true = refl
    go false false = refl
not_empty Large b = go (is_digit b)
  where
    go : (t : Bool) → is_empty (if t then Large else NoNumber) ≡ false
    go true = refl
    go false = refl
not_empty NoNumber b = refl

pub digits_not_empty : (d : Digits) (bs : List ℕ) → is_empty d ≡ false → is_empty (digits_from d bs) ≡ false
digits_not_empty d [] h = h
digits_not_empty d (b ∷ bs) h = digits_not_empty (after_digit d b) bs (not_empty d b)

behind_digits : (d : Digits) (bs : List ℕ) → is_empty d ≡ false →
    word_from (record { minus = false; digits = d }) bs ≡ record { minus = false; digits = digits_from d bs }
behind_digits d [] h = refl
behind_digits d (b ∷ bs) h =
    ap (λ t. word_from (if t && (b == 45) then record { minus = true; digits = Empty } else record { minus = false; digits = after_digit d b }) bs) h
    ∙ behind_digits (after_digit d b) bs (not_empty d b)

-- the token of bytes
word_case : (t : Bool) (b : ℕ) (bs : List ℕ) → (b == 45) ≡ t →
    word_from no_word (b ∷ bs) ≡ (if t then record { minus = true; digits = digits_from Empty bs } else
    record { minus = false; digits = digits_from Empty (b ∷ bs) })
word_case true b bs e =
    ap (λ t. word_from (if t then record { minus = true; digits = Empty } else record { minus = false; digits = after_digit Empty b }) bs) e
    ∙ behind_minus Empty bs
word_case false b bs e =
    ap (λ t. word_from (if t then record { minus = true; digits = Empty } else record { minus = false; digits = after_digit Empty b }) bs) e
    ∙ behind_digits (after_digit Empty b) bs (not_empty Empty b)

meaning_case : (t : Bool) (b : ℕ) (bs : List ℕ) →
    (if t then negative (number bs) else positive (number (b ∷ bs))) ≡ word_says
    (if t then record { minus = true; digits = digits_from Empty bs } else record { minus = false; digits = digits_from Empty (b ∷ bs) })
meaning_case true b bs = sym (negative_capped (number bs)) ∙ ap negative (number_agrees bs)
meaning_case false b bs = sym (positive_capped (number (b ∷ bs))) ∙ ap positive (number_agrees (b ∷ bs))

pub meaning_agrees : (w : List ℕ) → meaning w ≡ word_says (word_from no_word w)
meaning_agrees [] = refl
meaning_agrees (b ∷ bs) = meaning_case (b == 45) b bs ∙ sym (ap word_says (word_case (b == 45) b bs refl))

some_case : (t : Bool) (b : ℕ) (bs : List ℕ) →
    is_none (if t then record { minus = true; digits = digits_from Empty bs } else record { minus = false; digits = digits_from Empty (b ∷ bs) }) ≡ false
some_case true b bs = refl
some_case false b bs = digits_not_empty (after_digit Empty b) bs (not_empty Empty b)

pub some_word : (b : ℕ) (bs : List ℕ) → is_none (word_from no_word (b ∷ bs)) ≡ false
some_word b bs = ap is_none (word_case (b == 45) b bs refl) ∙ some_case (b == 45) b bs

pub word_from-append : (w : Word) (xs ys : List ℕ) → word_from w (xs ++ ys) ≡ word_from (word_from w xs) ys
word_from-append w [] ys = refl
word_from-append w (x ∷ xs) ys = word_from-append (after_byte w x) xs ys

-- a token, or nothing
abbrev pub one_token : List ℕ → List (List ℕ)
one_token [] = []
one_token (b ∷ bs) = (b ∷ bs) ∷ []

pub one_items : (n : ℕ) (w : List ℕ) → token_items n (one_token w) ≡ word_items n (word_from no_word w)
one_items n [] = refl
one_items n (b ∷ bs) =
    ap (λ m. Token n m ∷ []) (meaning_agrees (b ∷ bs))
    ∙ sym (ap (λ t. if t then [] else Token n (word_says (word_from no_word (b ∷ bs))) ∷ []) (some_word b bs))

-- 3. The tokens of a line.
-- a split has a first piece
pub record Pieces (pieces : List (List ℕ)) : Type 0 where
  pub first : List ℕ
  pub rest : List (List ℕ)
  pub are : pieces ≡ first ∷ rest

put_pieces : (t : Bool) (b : ℕ) (pieces : List (List ℕ)) → Pieces (put t b pieces)
put_pieces true b pieces = record { first = []; rest = pieces; are = refl }
put_pieces false b [] = record { first = b ∷ []; rest = []; are = refl }
put_pieces false b (piece ∷ pieces) = record { first = b ∷ piece; rest = pieces; are = refl }

pub split_pieces : (p : ℕ → Bool) (bs : List ℕ) → Pieces (split p bs)
split_pieces p [] = record { first = []; rest = []; are = refl }
split_pieces p (b ∷ bs) = put_pieces (p b) b (split p bs)

-- the first piece goes on with these bytes
abbrev pub join : List ℕ → List (List ℕ) → List (List ℕ)
join front [] = []
join front (piece ∷ pieces) = (front ++ piece) ∷ pieces

pub join_nothing : (pieces : List (List ℕ)) → join [] pieces ≡ pieces
join_nothing [] = refl
join_nothing (piece ∷ pieces) = refl

abbrev pub tokens_behind : Bool → List ℕ → List ℕ → List (List ℕ)
tokens_behind ended w line = nonempty (ended_pieces ended (join w (split is_blank line)))

blank_pieces : (ended : Bool) (w first : List ℕ) (pieces : List (List ℕ)) →
    nonempty (ended_pieces ended (w ∷ first ∷ pieces)) ≡ one_token w ++ nonempty (ended_pieces ended (first ∷ pieces))
blank_pieces true [] first pieces = refl
blank_pieces true (b ∷ bs) first pieces = refl
blank_pieces false [] first pieces = refl
blank_pieces false (b ∷ bs) first pieces = refl

pub tokens_end : (w : List ℕ) → tokens_behind true w [] ≡ one_token w
tokens_end w = ap (λ x. nonempty (x ∷ [])) (append-nil w) ∙ one w
  where
    one : (w : List ℕ) → nonempty (w ∷ []) ≡ one_token w
    one [] = refl
    one (b ∷ bs) = refl

pub tokens_blank : (ended : Bool) (w : List ℕ) (b : ℕ) (line : List ℕ) → is_blank b ≡ true →
    tokens_behind ended w (b ∷ line) ≡ one_token w ++ tokens_behind ended [] line
tokens_blank ended w b line h =
    let p = split_pieces is_blank line in
    ap (λ t. nonempty (ended_pieces ended (join w (put t b (split is_blank line))))) h
    ∙ ap (λ ps. nonempty (ended_pieces ended ((w ++ []) ∷ ps))) p.are
    ∙ ap (λ x. nonempty (ended_pieces ended (x ∷ p.first ∷ p.rest))) (append-nil w)
    ∙ blank_pieces ended w p.first p.rest
    ∙ sym (ap (λ ps. one_token w ++ nonempty (ended_pieces ended (join [] ps))) p.are)

pub tokens_more : (ended : Bool) (w : List ℕ) (b : ℕ) (line : List ℕ) → is_blank b ≡ false →
    tokens_behind ended w (b ∷ line) ≡ tokens_behind ended (w ++ b ∷ []) line
tokens_more ended w b line h =
    let p = split_pieces is_blank line in
    ap (λ t. nonempty (ended_pieces ended (join w (put t b (split is_blank line))))) h
    ∙ ap (λ ps. nonempty (ended_pieces ended (join w (put false b ps)))) p.are
    ∙ ap (λ x. nonempty (ended_pieces ended (x ∷ p.rest))) (sym (append_assoc w (b ∷ []) p.first))
    ∙ sym (ap (λ ps. nonempty (ended_pieces ended (join (w ++ b ∷ []) ps))) p.are)

items-append : (n : ℕ) (ts us : List (List ℕ)) → token_items n (ts ++ us) ≡ token_items n ts ++ token_items n us
items-append n [] us = refl
items-append n (t ∷ ts) us = ap (λ xs. Token n (meaning t) ∷ xs) (items-append n ts us)

tokens_step : (t ended : Bool) (n : ℕ) (w : List ℕ) (b : ℕ) (line : List ℕ) → is_blank b ≡ t →
    ((v : List ℕ) → token_items n (tokens_behind ended v line) ≡ plain_rest ended n (word_from no_word v) line) →
    token_items n (tokens_behind ended w (b ∷ line)) ≡ (if t then word_items n
    (word_from no_word w) ++ plain_rest ended n no_word line else plain_rest ended n (after_byte (word_from no_word w) b) line)
tokens_step true ended n w b line h f =
    ap (λ ts. token_items n ts) (tokens_blank ended w b line h)
    ∙ items-append n (one_token w) (tokens_behind ended [] line)
    ∙ ap (λ xs. xs ++ token_items n (tokens_behind ended [] line)) (one_items n w)
    ∙ ap (λ xs. word_items n (word_from no_word w) ++ xs) (f [])
tokens_step false ended n w b line h f =
    ap (λ ts. token_items n ts) (tokens_more ended w b line h)
    ∙ f (w ++ b ∷ [])
    ∙ ap (λ x. plain_rest ended n x line) (word_from-append no_word w (b ∷ []))

pub tokens_agree : (ended : Bool) (n : ℕ) (w line : List ℕ) → token_items n (tokens_behind ended w line) ≡ plain_rest ended n (word_from no_word w) line
tokens_agree true n w [] = ap (λ ts. token_items n ts) (tokens_end w) ∙ one_items n w
tokens_agree false n w [] = refl
tokens_agree ended n w (b ∷ line) = tokens_step (is_blank b) ended n w b line refl (λ v. tokens_agree ended n v line)

pub tokens_all : (ended : Bool) (line : List ℕ) → tokens_behind ended [] line ≡ tokens ended line
tokens_all ended line = ap (λ ps. nonempty (ended_pieces ended ps)) (join_nothing (split is_blank line))

pub plain_agrees : (ended : Bool) (n : ℕ) (line : List ℕ) → token_items n (tokens ended line) ≡ plain_rest ended n no_word line
plain_agrees ended n line = sym (ap (λ ts. token_items n ts) (tokens_all ended line)) ∙ tokens_agree ended n [] line
