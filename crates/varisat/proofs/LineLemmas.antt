-- How lines part into words, and that a word stands for one literal.
use Rattle.std.proofs.Common.{◌≡◌, ◌≢◌, ℕ, zero, suc, ◌+◌, ◌-◌, ◌*◌, ◌/◌, ◌%◌, ◌^◌, ◌<◌, ◌≤◌, ◌==◌, ◌⊎◌, inl, inr, Bool, true, false, nat_eq, if◌then◌else◌, List, [], ◌∷◌, ◌++◌, map, length, get_or, fold, ℤ, pos, negsuc, refl, sym, ap, subst, Ok, take, drop, Option, None, Some, IfNone, IfSome, Bor, append_assoc, append-nil, ◌∙◌, arith, rules, tests, codes, decimal}
use lib.Signed.{mag}
use Rattle.std.specs.List.{All, AllByRecursion, AllWithin, HoldsAt, join_with_byte}
use Rattle.std.specs.Fmt.{signed_decimal}
use Rattle.std.specs.Cmp.Lexicographic.{same_text, pointwise}
use Rattle.std.specs.Str.{IsUtf8}
use Rattle.std.specs.Str.Parse.{AllDigits, digits_value, ParsesUnsigned}
use Rattle.std.proofs.lemmas.Fmt.{decimal_is_IsNumeral, signed_decimal_injective, first_decimal, decimal_nonempty, IsAscii-decimal, decimal-digits_value, decimal_digit, decimal_injective}
use Rattle.std.proofs.lemmas.Str.{IsUtf8-from_ascii}
use Rattle.std.proofs.lemmas.Str.Parse.{digit_from_value, IsNumeralModel, numerals_by_value, tells_digits, parse_plain}
use Rattle.std.proofs.lemmas.List.{get_or-take, take-append-drop, length-take, map-append}
use Rattle.std.proofs.Math.Seq.{drop-cons}
use Rattle.std.proofs.lemmas.List.Elements.{All-from_recursion, recursion_from_All}
use Rattle.std.proofs.lemmas.List.Splits.{slice_split_none, slice_split_at, join_with_byte-slice_split, length-slice_split}
use Rattle.varisat_literals.specs.promises.Numbers.{literal_number}
use Rattle.varisat_literals.specs.promises.Numbers.{literal_text, variable_text}
use Rattle.varisat_formula.specs.promises.Streams.{Input, Taken}
use Rattle.varisat.specs.promises.Runs.{MayStillFail}
use Rattle.varisat.specs.declared.session.Call.{Call}
use Rattle.varisat.specs.declared.session.Call.TheVariants as call
use Rattle.varisat_names.specs.declared.config.ConfigField.{ConfigField}
use Rattle.varisat_names.specs.declared.config.ConfigField.TheVariants.{VsidsDecay, ClauseActivityDecay, ReduceLocalsInterval, ReduceMidsInterval, LubyRestartIntervalScale, RestartGlue, MaxSteps}
use Rattle.varisat_names.specs.promises.Settings.{field_text}
use Rattle.varisat.specs.promises.Lines.{Command, Add, Assume, New, Sample, Witness, Hide, Observe, Solve, Model, Core, Config, Steps, Since, ProofText, ProofBinary, ProofMarked, Close, SelfCheck, MeansCommand, MeansOneCommand, HasNumbersInRange, AsksFor, words, words_of, spelling}

abbrev pub NoSpace : List ℕ → Type 0
NoSpace word = All (λ b. (b == 32) ≡ false) word

no_space : (word : List ℕ) → AllByRecursion (λ b. (b == 32) ≡ false) word → NoSpace word
no_space word h = All-from_recursion (λ b. (b == 32) ≡ false) word h

digit_is_no_space : (c : ℕ) → 48 ≤ c → (c == 32) ≡ false
digit_is_no_space c h = search (rules, h)

digits_have_no_space : (ds : List ℕ) → AllDigits 10 ds → AllByRecursion (λ b. (b == 32) ≡ false) ds
digits_have_no_space [] h = tt
digits_have_no_space (c ∷ cs) (h, hs) =
    let r = digit_from_value c h in (digit_is_no_space c (omega arith), digits_have_no_space cs hs)

decimal_has_no_space : (n : ℕ) → n < 2 ^ 64 → AllByRecursion (λ b. (b == 32) ≡ false) (decimal n)
decimal_has_no_space n h = digits_have_no_space (decimal n) (decimal_is_IsNumeral n h).0.1

-- what the number of a literal is
pub record HasNumber (l : ℕ) (z : ℤ) : Type 0 where
  pub v : ℕ
  pub is : ((l ≡ 2 * v) × (z ≡ pos (v + 1))) ⊎ ((l ≡ 2 * v + 1) × (z ≡ negsuc v))

number_case : (l : ℕ) (t : Bool) → nat_eq (l % 2) 0 ≡ t → HasNumber l (if t then pos (l / 2 + 1) else negsuc (l / 2))
number_case l true h = let n : l % 2 ≡ 0 = search (rules, tests, h) in record { v = l / 2; is = inl (omega arith, refl) }
number_case l false h = let n : l % 2 ≢ 0 = search (rules, tests, h) in record { v = l / 2; is = inr (omega arith, refl) }

pub has_number : (l : ℕ) → HasNumber l (literal_number l)
has_number l = number_case l (nat_eq (l % 2) 0) refl

pub numbers_apart : (l m : ℕ) → literal_number l ≡ literal_number m → l ≡ m
numbers_apart l m e = apart l m (literal_number l) (literal_number m) e (has_number l) (has_number m)
  where
    cases : (l m : ℕ) (y z : ℤ) (v w : ℕ) → y ≡ z → ((l ≡ 2 * v) × (y ≡ pos (v + 1))) ⊎ ((l ≡ 2 * v + 1) × (y ≡ negsuc v)) →
        ((m ≡ 2 * w) × (z ≡ pos (w + 1))) ⊎ ((m ≡ 2 * w + 1) × (z ≡ negsuc w)) → l ≡ m
    cases l m y z v w e (inl (a, b)) (inl (c, d)) = let k : v + 1 ≡ w + 1 = cc in omega arith
    cases l m y z v w e (inl (a, b)) (inr (c, d)) = absurd cc
    cases l m y z v w e (inr (a, b)) (inl (c, d)) = absurd cc
    cases l m y z v w e (inr (a, b)) (inr (c, d)) = let k : v ≡ w = cc in omega arith

    apart : (l m : ℕ) (y z : ℤ) → y ≡ z → HasNumber l y → HasNumber m z → l ≡ m
    apart l m y z e a b = cases l m y z a.v b.v e a.is b.is

small_case : (l v : ℕ) (z : ℤ) → l < 2 ^ 32 → ((l ≡ 2 * v) × (z ≡ pos (v + 1))) ⊎ ((l ≡ 2 * v + 1) × (z ≡ negsuc v)) → mag z < 2 ^ 63
small_case l v z h (inl (a, b)) = rw b (omega arith)
small_case l v z h (inr (a, b)) = rw b (omega arith)

pub number_is_small : (l : ℕ) → l < 2 ^ 32 → mag (literal_number l) < 2 ^ 63
number_is_small l h = let n = has_number l in small_case l n.v (literal_number l) h n.is

pub texts_apart : (l m : ℕ) → l < 2 ^ 32 → m < 2 ^ 32 → literal_text l ≡ literal_text m → l ≡ m
texts_apart l m h k e = numbers_apart l m (signed_decimal_injective (literal_number l) (literal_number m) (number_is_small l h) (number_is_small m k) e)

no_space_case : (l v : ℕ) (z : ℤ) → l < 2 ^ 32 → ((l ≡ 2 * v) × (z ≡ pos (v + 1))) ⊎ ((l ≡ 2 * v + 1) × (z ≡ negsuc v)) →
    AllByRecursion (λ b. (b == 32) ≡ false) (signed_decimal z)
no_space_case l v z h (inl (a, b)) = rw b (decimal_has_no_space (v + 1) (omega arith))
no_space_case l v z h (inr (a, b)) = rw b (refl, decimal_has_no_space (suc v) (omega arith))

pub literal_has_no_space : (l : ℕ) → l < 2 ^ 32 → NoSpace (literal_text l)
literal_has_no_space l h = let n = has_number l in no_space (literal_text l) (no_space_case l n.v (literal_number l) h n.is)

texts_have_no_space : (ls : List ℕ) → AllByRecursion (λ l. l < 2 ^ 32) ls → AllByRecursion NoSpace (map literal_text ls)
texts_have_no_space [] h = tt
texts_have_no_space (l ∷ ls) (h, hs) = (literal_has_no_space l h, texts_have_no_space ls hs)

abbrev spaceless : List ℕ → Bool
spaceless [] = true
spaceless (b ∷ bs) = if b == 32 then false else spaceless bs

from_spaceless : (bs : List ℕ) → spaceless bs ≡ true → AllByRecursion (λ b. (b == 32) ≡ false) bs
from_spaceless [] e = tt
from_spaceless (b ∷ bs) e = go (b == 32) refl e (from_spaceless bs)
  where
    go : (t : Bool) → (b == 32) ≡ t → (if t then false else spaceless bs) ≡ true →
        (spaceless bs ≡ true → AllByRecursion (λ b. (b == 32) ≡ false) bs) → AllByRecursion (λ b. (b == 32) ≡ false) (b ∷ bs)
    go true h k f = absurd (let z : false ≡ true = k in cc)
    go false h k f = (h, f k)

is_word : (word : List ℕ) → spaceless word ≡ true → NoSpace word
is_word word e = no_space word (from_spaceless word e)

name_has_no_space : (field : ConfigField) → NoSpace (field_text field)
name_has_no_space VsidsDecay = is_word (codes "vsids_decay") refl
name_has_no_space ClauseActivityDecay = is_word (codes "clause_activity_decay") refl
name_has_no_space ReduceLocalsInterval = is_word (codes "reduce_locals_interval") refl
name_has_no_space ReduceMidsInterval = is_word (codes "reduce_mids_interval") refl
name_has_no_space LubyRestartIntervalScale = is_word (codes "luby_restart_interval_scale") refl
name_has_no_space RestartGlue = is_word (codes "restart_glue") refl
name_has_no_space MaxSteps = is_word (codes "max_steps") refl

number_has_no_space : (n : ℕ) → n < 2 ^ 64 → NoSpace (decimal n)
number_has_no_space n h = no_space (decimal n) (decimal_has_no_space n h)

variable_has_no_space : (v : ℕ) → v < 2 ^ 31 → NoSpace (variable_text v)
variable_has_no_space v h = number_has_no_space (v + 1) (omega arith)

-- each setting's name has a length of its own
names_apart : (f g : ConfigField) → length (field_text f) ≡ length (field_text g) → f ≡ g
names_apart VsidsDecay VsidsDecay e = refl
names_apart ClauseActivityDecay ClauseActivityDecay e = refl
names_apart ReduceLocalsInterval ReduceLocalsInterval e = refl
names_apart ReduceMidsInterval ReduceMidsInterval e = refl
names_apart LubyRestartIntervalScale LubyRestartIntervalScale e = refl
names_apart RestartGlue RestartGlue e = refl
names_apart MaxSteps MaxSteps e = refl
names_apart f g e = absurd (omega (arith, e))

abbrev keyword : List (List ℕ) → List ℕ
keyword [] = []
keyword (word ∷ ws) = word

pub words_have_no_space : (command : Command) → HasNumbersInRange command → AllByRecursion NoSpace (words command)
words_have_no_space (Add ls) h =
    (is_word (codes "add") refl, texts_have_no_space ls (recursion_from_All (λ l. l < 2 ^ 32) ls h))
words_have_no_space (Assume ls) h =
    (is_word (codes "assume") refl, texts_have_no_space ls (recursion_from_All (λ l. l < 2 ^ 32) ls h))
words_have_no_space (Sample v) h = (is_word (codes "sample") refl, (variable_has_no_space v h, tt))
words_have_no_space (Witness v) h = (is_word (codes "witness") refl, (variable_has_no_space v h, tt))
words_have_no_space (Hide v) h = (is_word (codes "hide") refl, (variable_has_no_space v h, tt))
words_have_no_space (Config field value) h =
    (is_word (codes "config") refl, (name_has_no_space field, (number_has_no_space value h, tt)))
words_have_no_space ProofText h = (is_word (codes "proof") refl, (is_word (codes "text") refl, tt))
words_have_no_space ProofBinary h = (is_word (codes "proof") refl, (is_word (codes "binary") refl, tt))
words_have_no_space ProofMarked h = (is_word (codes "proof") refl, (is_word (codes "marked") refl, tt))
words_have_no_space command h = (is_word (keyword (words command)) refl, tt)

-- words that are joined are parted again
pub words_of_joined : (w : List ℕ) (ws : List (List ℕ)) → AllByRecursion NoSpace (w ∷ ws) → words_of (join_with_byte 32 (w ∷ ws)) ≡ w ∷ ws
words_of_joined w [] (h, hs) = slice_split_none (λ b. b == 32) w h
words_of_joined w (x ∷ xs) (h, hs) = slice_split_at (λ b. b == 32) w 32 (join_with_byte 32 (x ∷ xs)) h refl ∙ ap (λ l. w ∷ l) (words_of_joined x xs hs)

words_of_spelled : (command : Command) → HasNumbersInRange command → words_of (spelling command) ≡ words command
words_of_spelled (Add ls) h = words_of_joined (codes "add") (map literal_text ls) (words_have_no_space (Add ls) h)
words_of_spelled command h = words_of_joined _ _ (words_have_no_space command h)

pub words_of_meant : (text : List ℕ) (command : Command) → MeansCommand text command → words_of text ≡ words command
words_of_meant text command m = ap words_of (sym m.spelled) ∙ words_of_spelled command m.in_range

lists_apart : (ls ms : List ℕ) → AllByRecursion (λ l. l < 2 ^ 32) ls → AllByRecursion (λ l. l < 2 ^ 32) ms → map literal_text ls ≡ map literal_text ms → ls ≡ ms
lists_apart [] [] h k e = refl
lists_apart [] (m ∷ ms) h k e = absurd cc
lists_apart (l ∷ ls) [] h k e = absurd cc
lists_apart (l ∷ ls) (m ∷ ms) (h, hs) (k, ks) e =
    let heads : literal_text l ≡ literal_text m = cc in
    let tails : map literal_text ls ≡ map literal_text ms = cc in
    let one = texts_apart l m h k heads in
    let others = lists_apart ls ms hs ks tails in cc

adds_apart : (ls ms : List ℕ) → All (λ l. l < 2 ^ 32) ls → All (λ l. l < 2 ^ 32) ms → words (Add ls) ≡ words (Add ms) → Add ls ≡ Add ms
adds_apart ls ms h k e =
    let tails : map literal_text ls ≡ map literal_text ms = cc in
    ap Add (lists_apart ls ms (recursion_from_All (λ l. l < 2 ^ 32) ls h) (recursion_from_All (λ l. l < 2 ^ 32) ms k) tails)

assumptions_apart : (ls ms : List ℕ) → All (λ l. l < 2 ^ 32) ls → All (λ l. l < 2 ^ 32) ms → words (Assume ls) ≡ words (Assume ms) → Assume ls ≡ Assume ms
assumptions_apart ls ms h k e =
    let tails : map literal_text ls ≡ map literal_text ms = cc in
    ap Assume (lists_apart ls ms (recursion_from_All (λ l. l < 2 ^ 32) ls h) (recursion_from_All (λ l. l < 2 ^ 32) ms k) tails)

settings_apart : (f g : ConfigField) (m n : ℕ) → m < 2 ^ 64 → n < 2 ^ 64 → words (Config f m) ≡ words (Config g n) → Config f m ≡ Config g n
settings_apart f g m n h k e =
    let names : field_text f ≡ field_text g = cc in
    let texts : decimal m ≡ decimal n = cc in
    let a = names_apart f g (ap (λ (w : List ℕ). length w) names) in
    let b = decimal_injective m n h k texts in
    ap (λ x. Config x m) a ∙ ap (Config g) b

variables_apart : (u v : ℕ) → u < 2 ^ 31 → v < 2 ^ 31 → variable_text u ≡ variable_text v → u ≡ v
variables_apart u v h k e = let n = decimal_injective (u + 1) (v + 1) (omega arith) (omega arith) e in omega (arith, n)

second_same : (a b c d : List ℕ) → a ∷ b ∷ [] ≡ c ∷ d ∷ [] → b ≡ d
second_same a b c d e = cc

-- the bytes of the first word as one number, by which the kinds of commands differ
abbrev first_word_number : List (List ℕ) → ℕ
first_word_number ws = fold (λ n b. 256 * n + b) 0 (keyword ws)

pub words_apart : (a b : Command) → HasNumbersInRange a → HasNumbersInRange b → words a ≡ words b → a ≡ b
words_apart (Add ls) (Add ms) h k e = adds_apart ls ms h k e
words_apart (Assume ls) (Assume ms) h k e = assumptions_apart ls ms h k e
words_apart New New h k e = refl
words_apart (Sample u) (Sample v) h k e = ap Sample (variables_apart u v h k (second_same _ _ _ _ e))
words_apart (Witness u) (Witness v) h k e = ap Witness (variables_apart u v h k (second_same _ _ _ _ e))
words_apart (Hide u) (Hide v) h k e = ap Hide (variables_apart u v h k (second_same _ _ _ _ e))
words_apart Observe Observe h k e = refl
words_apart Solve Solve h k e = refl
words_apart Model Model h k e = refl
words_apart Core Core h k e = refl
words_apart (Config f m) (Config g n) h k e = settings_apart f g m n h k e
words_apart Steps Steps h k e = refl
words_apart Since Since h k e = refl
words_apart ProofText ProofText h k e = refl
words_apart ProofText ProofBinary h k e = let n = ap (λ (word : List ℕ). length word) (second_same _ _ _ _ e) in absurd (omega (arith, n))
words_apart ProofBinary ProofText h k e = let n = ap (λ (word : List ℕ). length word) (second_same _ _ _ _ e) in absurd (omega (arith, n))
words_apart ProofText ProofMarked h k e = let n = ap (λ (word : List ℕ). length word) (second_same _ _ _ _ e) in absurd (omega (arith, n))
words_apart ProofMarked ProofText h k e = let n = ap (λ (word : List ℕ). length word) (second_same _ _ _ _ e) in absurd (omega (arith, n))
words_apart ProofBinary ProofMarked h k e = let n = ap (λ (word : List ℕ). get_or word 0 0) (second_same _ _ _ _ e) in absurd (omega (arith, n))
words_apart ProofMarked ProofBinary h k e = let n = ap (λ (word : List ℕ). get_or word 0 0) (second_same _ _ _ _ e) in absurd (omega (arith, n))
words_apart ProofBinary ProofBinary h k e = refl
words_apart ProofMarked ProofMarked h k e = refl
words_apart Close Close h k e = refl
words_apart SelfCheck SelfCheck h k e = refl
words_apart a b h k e = let n : first_word_number (words a) ≡ first_word_number (words b) = ap first_word_number e in absurd (omega arith)

pub one_command : MeansOneCommand
one_command text a b m n = words_apart a b m.in_range n.in_range (sym (words_of_meant text a m) ∙ words_of_meant text b n)

-- a number's text begins with a digit, with 0 only where it is that alone
pub begins_above : (v : ℕ) (ds : List ℕ) → v < 2 ^ 31 → decimal (v + 1) ≡ ds → 48 < get_or ds 0 0
begins_above v ds h e = subst (λ xs. 48 < get_or xs 0 0) e (first_decimal (v + 1) (omega arith) (omega arith))

pub begins_with_digit : (n : ℕ) (ds : List ℕ) → n < 2 ^ 64 → decimal n ≡ ds → 48 ≤ get_or ds 0 0
begins_with_digit zero ds h e = let z : get_or ds 0 0 ≡ 48 = ap (λ xs. get_or xs 0 0) (sym e ∙ decimal_digit 0 (omega arith)) in omega (arith, z)
begins_with_digit (suc n) ds h e = let k = subst (λ xs. 48 < get_or xs 0 0) e (first_decimal (suc n) (omega arith) h) in omega (arith, k)

pub zero_alone : (n : ℕ) (ds : List ℕ) → n < 2 ^ 64 → decimal n ≡ ds → get_or ds 0 0 ≡ 48 → length ds ≡ 1
zero_alone zero ds h e f = ap (λ (xs : List ℕ). length xs) (sym e ∙ decimal_digit 0 (omega arith))
zero_alone (suc n) ds h e f = absurd (let k = subst (λ xs. 48 < get_or xs 0 0) e (first_decimal (suc n) (omega arith) h) in omega (arith, k, f))

pub nonempty : (n : ℕ) (ds : List ℕ) → n < 2 ^ 64 → decimal n ≡ ds → 0 < length ds
nonempty n ds h e = subst (λ xs. 0 < length xs) e (decimal_nonempty n h)

pub is_utf8 : (n : ℕ) (ds : List ℕ) → n < 2 ^ 64 → decimal n ≡ ds → IsUtf8 ds
is_utf8 n ds h e = subst IsUtf8 e (IsUtf8-from_ascii (decimal n) (IsAscii-decimal n h))

-- digits of which the first is none of `+` and `0`, or `0` alone, are the number's text
own : IsNumeralModel (AllDigits 10) (digits_value 10)
own = numerals_by_value (AllDigits 10) tells_digits

parsed : (ds : List ℕ) (n : ℕ) → get_or ds 0 0 ≢ 43 → (get_or ds 0 0 ≡ 48 → length ds ≤ 1) → ParsesUnsigned {E = ℕ} 64 10 ds (Ok n) →
    (decimal n ≡ ds) × (n < 2 ^ 64)
parsed ds n plus nought p =
    let r = parse_plain own {E = ℕ} 64 ds (Ok n) p plus in
    let some = r.0.1 in (
      subst (λ k. decimal k ≡ ds) (sym r.1) (decimal-digits_value own ds r.0.0 r.0.1 (λ z. let a = nought z in omega (arith, a, some)) (omega (arith, r.0.2))),
      omega (arith, r.0.2, r.1),
    )

pub reads : (ds text : List ℕ) (first n : ℕ) → ds ≡ text → first ≡ get_or text 0 0 → first ≢ 43 → (first ≡ 48 → length text ≤ 1) →
    ParsesUnsigned {E = ℕ} 64 10 ds (Ok n) → (decimal n ≡ text) × (n < 2 ^ 64)
reads ds text first n e f plus nought p =
    subst (λ xs. (decimal n ≡ xs) × (n < 2 ^ 64)) e
    (parsed ds n (λ k. plus (f ∙ ap (λ xs. get_or xs 0 0) (sym e) ∙ k))
    (λ k. let a = nought (f ∙ ap (λ xs. get_or xs 0 0) (sym e) ∙ k) in let b = ap (λ (xs : List ℕ). length xs) e in omega (arith, a, b)) p)

-- behind a `-` stands the number of a variable
behind_case : (l v : ℕ) (z : ℤ) (text digits : List ℕ) → l < 2 ^ 32 → ((l ≡ 2 * v) × (z ≡ pos (v + 1))) ⊎ ((l ≡ 2 * v + 1) × (z ≡ negsuc v)) →
    take 1 text ≡ 45 ∷ [] → digits ≡ drop 1 text → signed_decimal z ≡ text → (v < 2 ^ 31) × (decimal (v + 1) ≡ digits)
behind_case l v z text digits h (inl (a, b)) t d e =
    let w : decimal (v + 1) ≡ text = ap signed_decimal (sym b) ∙ e in
    let k = begins_above v text (omega arith) w in
    let f : get_or text 0 0 ≡ 45 = first_taken text 45 t in absurd (omega arith)
  where
    first_taken : (xs : List ℕ) (b : ℕ) → take 1 xs ≡ b ∷ [] → get_or xs 0 0 ≡ b
    first_taken [] b e = absurd cc
    first_taken (x ∷ xs) b e = cc
behind_case l v z text digits h (inr (a, b)) t d e =
    (omega arith, ap decimal (omega arith) ∙ ap (drop 1) (ap signed_decimal (sym b) ∙ e) ∙ sym d)

pub no_literal : (text digits : List ℕ) → true ≡ pointwise nat_eq (take 1 text) (45 ∷ []) → digits ≡ drop 1 text →
    ((v : ℕ) → v < 2 ^ 31 → decimal (v + 1) ≢ digits) → (l : ℕ) → l < 2 ^ 32 → literal_text l ≢ text
no_literal text digits t d none l h e =
    let n = has_number l in
    let r = behind_case l n.v (literal_number l) text digits h n.is (same_text (take 1 text) (45 ∷ []) t) d e in none n.v r.0 r.1

-- a text is cut behind its first word
pub word_cut : (text : List ℕ) (i : ℕ) → i < length text → HoldsAt (λ b. (b == 32) ≡ true) text i → AllWithin (λ b. (b == 32) ≡ false) text 0 i →
    words_of text ≡ take i text ∷ words_of (drop (i + 1) text)
word_cut text i h at before =
    let front : NoSpace (take i text) = λ k d l. let k_below : k < i = omega (arith, length-take i text) in rw get_or-take (before k d (omega arith) k_below) in
    let parts : take i text ++ get_or text i 0 ∷ drop (suc i) text ≡ text = ap (λ xs. take i text ++ xs) (sym (drop-cons text i 0 h))
    ∙ take-append-drop i text in
    let up : suc i ≡ i + 1 = omega arith in
    ap words_of (sym parts) ∙ slice_split_at (λ b. b == 32) (take i text) (get_or text i 0) (drop (suc i) text) front (at 0)
    ∙ ap (λ n. take i text ∷ words_of (drop n text)) up

pub word_alone : (text : List ℕ) → AllWithin (λ b. (b == 32) ≡ false) text 0 (length text) → words_of text ≡ text ∷ []
word_alone text h = slice_split_none (λ b. b == 32) text (λ k d l. h k d (omega arith) l)

-- the words that are still to be read
abbrev pub words_left : Option (Bor (List ℕ)) → List (List ℕ)
words_left None = []
words_left (Some text) = words_of text.now

abbrev pub bytes_left : Option (Bor (List ℕ)) → ℕ
bytes_left None = 0
bytes_left (Some text) = length text.now + 1

pub first_word : (text word : List ℕ) (others : Option (Bor (List ℕ))) → IfNone others (words_of text ≡ word ∷ []) →
    IfSome others (λ rest. words_of text ≡ word ∷ words_of rest.now) →
    words_of text ≡ word ∷ words_left others
first_word text word None e f = e
first_word text word (Some rest) e f = f

-- the words behind the literals that were read, from the next one on
pub words_behind : (ls numbers word : List ℕ) (text : Bor (List ℕ)) (rest others : Option (Bor (List ℕ))) →
    map literal_text ls ++ words_left rest ≡ words_of numbers → rest ≡ Some text →
    IfNone others (words_of text.now ≡ word ∷ []) → IfSome others (λ behind. words_of text.now ≡ word ∷ words_of behind.now) →
    map literal_text ls ++ word ∷ words_left others ≡ words_of numbers
words_behind ls numbers word text rest others left is last more =
    ap (λ ws. map literal_text ls ++ ws) (sym (first_word text.now word others last more)) ∙ ap (λ r. map literal_text ls ++ words_left r) (sym is) ∙ left

pub none_left : (rest : Option (Bor (List ℕ))) → ((text : Bor (List ℕ)) → rest ≢ Some text) → words_left rest ≡ []
none_left None h = refl
none_left (Some text) h = absurd (h text refl)

pub one_more_read : (ls : List ℕ) (l : ℕ) (word : List ℕ) (others all : List (List ℕ)) → map literal_text ls ++ word ∷ others ≡ all → literal_text l ≡ word →
    map literal_text (ls ++ l ∷ []) ++ others ≡ all
one_more_read ls l word others all e f =
    ap (λ xs. xs ++ others) (map-append literal_text ls (l ∷ [])) ∙ append_assoc (map literal_text ls) (literal_text l ∷ []) others
    ∙ ap (λ w. map literal_text ls ++ w ∷ others) f ∙ e

joined_behind : (word : List ℕ) (ws : List (List ℕ)) → 0 < length ws → join_with_byte 32 (word ∷ ws) ≡ word ++ (32 ∷ join_with_byte 32 ws)
joined_behind word [] h = absurd (omega arith)
joined_behind word (x ∷ xs) h = refl

-- a command whose literals were all read
spelled_read : (name numbers ls : List ℕ) → map literal_text ls ++ [] ≡ words_of numbers →
    join_with_byte 32 (name ∷ map literal_text ls) ≡ name ++ (32 ∷ numbers)
spelled_read name numbers ls e =
    ap (λ ws. join_with_byte 32 (name ∷ ws)) (sym (append-nil (map literal_text ls)) ∙ e) ∙
    joined_behind name (words_of numbers) (omega (arith, length-slice_split (λ b. b == 32) numbers)) ∙
    ap (λ xs. name ++ (32 ∷ xs)) (join_with_byte-slice_split 32 numbers)

pub clause_read : (numbers ls : List ℕ) → map literal_text ls ++ [] ≡ words_of numbers → All (λ l. l < 2 ^ 32) ls →
    MeansCommand (codes "add " ++ numbers) (Add ls)
clause_read numbers ls e h = record { spelled = spelled_read (codes "add") numbers ls e; in_range = h }

pub list_read : (numbers ls : List ℕ) → map literal_text ls ++ [] ≡ words_of numbers → All (λ l. l < 2 ^ 32) ls →
    MeansCommand (codes "assume " ++ numbers) (Assume ls)
list_read numbers ls e h = record { spelled = spelled_read (codes "assume") numbers ls e; in_range = h }

-- a word that is no literal stands in no clause
not_among : (ls ms word : List ℕ) (others : List (List ℕ)) → AllByRecursion (λ l. l < 2 ^ 32) ms → ((m : ℕ) → m < 2 ^ 32 → literal_text m ≢ word) →
    map literal_text ls ++ word ∷ others ≡ map literal_text ms → ⊥
not_among [] [] word others h none e = absurd cc
not_among [] (m ∷ ms) word others (h, hs) none e = let k : literal_text m ≡ word = cc in none m h k
not_among (l ∷ ls) [] word others h none e = absurd cc
not_among (l ∷ ls) (m ∷ ms) word others (h, hs) none e =
    let tails : map literal_text ls ++ word ∷ others ≡ map literal_text ms = cc in not_among ls ms word others hs none tails

tails_same : (a b : List ℕ) (xs ys : List (List ℕ)) → a ∷ xs ≡ b ∷ ys → xs ≡ ys
tails_same a b xs ys e = cc

-- so the text is no command of literals
no_literals : (name numbers ls word : List ℕ) (others : List (List ℕ)) (command : Command) → (name ≡ codes "add") ⊎ (name ≡ codes "assume") →
    HasNumbersInRange command → ((m : ℕ) → m < 2 ^ 32 → literal_text m ≢ word) →
    map literal_text ls ++ word ∷ others ≡ words_of numbers → name ∷ words_of numbers ≡ words command → ⊥
no_literals name numbers ls word others (Add ms) o h none e w =
    not_among ls ms word others (recursion_from_All (λ l. l < 2 ^ 32) ms h) none (e ∙ tails_same name (codes "add") (words_of numbers) (map literal_text ms) w)
no_literals name numbers ls word others (Assume ms) o h none e w =
    not_among ls ms word others (recursion_from_All (λ l. l < 2 ^ 32) ms h) none
    (e ∙ tails_same name (codes "assume") (words_of numbers) (map literal_text ms) w)
no_literals name numbers ls word others command (inl r) h none e w =
    let n : first_word_number (codes "add" ∷ words_of numbers) ≡ first_word_number (words command) =
    ap (λ x. first_word_number (x ∷ words_of numbers)) (sym r) ∙ ap first_word_number w in absurd (omega arith)
no_literals name numbers ls word others command (inr r) h none e w =
    let n : first_word_number (codes "assume" ∷ words_of numbers) ≡ first_word_number (words command) =
    ap (λ x. first_word_number (x ∷ words_of numbers)) (sym r) ∙ ap first_word_number w in absurd (omega arith)

pub no_clause : (numbers ls word : List ℕ) (others : List (List ℕ)) → ((m : ℕ) → m < 2 ^ 32 → literal_text m ≢ word) →
    map literal_text ls ++ word ∷ others ≡ words_of numbers → (command : Command) → MeansCommand (codes "add " ++ numbers) command → ⊥
no_clause numbers ls word others none e command m =
    no_literals (codes "add") numbers ls word others command (inl refl) m.in_range none e (words_of_meant (codes "add " ++ numbers) command m)

pub no_list : (numbers ls word : List ℕ) (others : List (List ℕ)) → ((m : ℕ) → m < 2 ^ 32 → literal_text m ≢ word) →
    map literal_text ls ++ word ∷ others ≡ words_of numbers → (command : Command) → MeansCommand (codes "assume " ++ numbers) command → ⊥
no_list numbers ls word others none e command m =
    no_literals (codes "assume") numbers ls word others command (inr refl) m.in_range none e
    (assume_first numbers ∙ words_of_meant (codes "assume " ++ numbers) command m)
  where
    assume_first : (numbers : List ℕ) → codes "assume" ∷ words_of numbers ≡ words_of (codes "assume " ++ numbers)
    assume_first numbers = sym (slice_split_at (λ b. b == 32) (codes "assume") 32 numbers
        (is_word (codes "assume") refl) refl)

-- Behind `config` stand a setting's name and a value.

one_word : (text word : List ℕ) → words_of text ≡ word ∷ [] → text ≡ word
one_word text word e = sym (join_with_byte-slice_split 32 text) ∙ ap (join_with_byte 32) e

pub setting_read : (setting name number : List ℕ) (field : ConfigField) (value : ℕ) → words_of setting ≡ name ∷ words_of number →
    field_text field ≡ name → decimal value ≡ number → value < 2 ^ 64 → MeansCommand (codes "config " ++ setting) (Config field value)
setting_read setting name number field value w f d h =
    let own : words_of number ≡ decimal value ∷ [] = ap words_of (sym d) ∙ slice_split_none (λ b. b == 32) (decimal value) (number_has_no_space value h) in
    let all : words_of setting ≡ field_text field ∷ decimal value ∷ [] = w ∙ ap (λ x. x ∷ words_of number) (sym f) ∙ ap (λ ws. field_text field ∷ ws) own in
    record {
      spelled = ap (λ xs. codes "config" ++ (32 ∷ xs)) (ap (join_with_byte 32) (sym all) ∙ join_with_byte-slice_split 32 setting);
      in_range = h;
    }

no_setting_case : (setting name : List ℕ) (others : List (List ℕ)) (command : Command) → HasNumbersInRange command →
    words_of setting ≡ name ∷ others →
    ((field : ConfigField) (value : ℕ) → value < 2 ^ 64 → field_text field ≡ name → decimal value ∷ [] ≡ others → ⊥) →
    codes "config" ∷ words_of setting ≡ words command → ⊥
no_setting_case setting name others (Config field value) h w none e =
    let tails = tails_same (codes "config") (codes "config") (words_of setting) (field_text field ∷ decimal value ∷ []) e in
    let both : name ∷ others ≡ field_text field ∷ decimal value ∷ [] = sym w ∙ tails in
    none field value h (let a : name ≡ field_text field = cc in sym a) (sym (tails_same name (field_text field) others (decimal value ∷ []) both))
no_setting_case setting name others command h w none e =
    let n : first_word_number (codes "config" ∷ words_of setting) ≡ first_word_number (words command) = ap first_word_number e in absurd (omega arith)

-- no command is spelled so where its parts are none of a setting
pub no_setting : (setting name : List ℕ) (others : List (List ℕ)) → words_of setting ≡ name ∷ others →
    ((field : ConfigField) (value : ℕ) → value < 2 ^ 64 → field_text field ≡ name → decimal value ∷ [] ≡ others → ⊥) → (command : Command) →
    MeansCommand (codes "config " ++ setting) command → ⊥
no_setting setting name others w none command m =
    no_setting_case setting name others command m.in_range w none (config_first setting ∙ words_of_meant (codes "config " ++ setting) command m)
  where
    config_first : (setting : List ℕ) → codes "config" ∷ words_of setting ≡ words_of (codes "config " ++ setting)
    config_first setting = sym (slice_split_at (λ b. b == 32) (codes "config") 32 setting
        (is_word (codes "config") refl) refl)

pub number_alone : (number word : List ℕ) → word ∷ [] ≡ words_of number → word ≡ number
number_alone number word e = sym (one_word number word (sym e))

-- Behind `sample`, `witness` and `hide` stands a variable.

behind_name : (text name number : List ℕ) (n : ℕ) → pointwise nat_eq (take n text) name ≡ true → number ≡ drop n text → name ++ number ≡ text
behind_name text name number n t d = ap (λ x. x ++ number) (sym (same_text (take n text) name (sym t))) ∙ ap (λ x. take n text ++ x) d ∙ take-append-drop n text

pub sample_read : (text number : List ℕ) (v : ℕ) → pointwise nat_eq (take 7 text) (codes "sample ") ≡ true → number ≡ drop 7 text →
    variable_text v ≡ number → v < 2 ^ 31 → MeansCommand text (Sample v)
sample_read text number v t d e h = record { spelled = ap (λ xs. codes "sample " ++ xs) e ∙ behind_name text (codes "sample ") number 7 t d; in_range = h }

pub witness_read : (text number : List ℕ) (v : ℕ) → pointwise nat_eq (take 8 text) (codes "witness ") ≡ true → number ≡ drop 8 text →
    variable_text v ≡ number → v < 2 ^ 31 → MeansCommand text (Witness v)
witness_read text number v t d e h = record { spelled = ap (λ xs. codes "witness " ++ xs) e ∙ behind_name text (codes "witness ") number 8 t d; in_range = h }

pub hide_read : (text number : List ℕ) (v : ℕ) → pointwise nat_eq (take 5 text) (codes "hide ") ≡ true → number ≡ drop 5 text →
    variable_text v ≡ number → v < 2 ^ 31 → MeansCommand text (Hide v)
hide_read text number v t d e h = record { spelled = ap (λ xs. codes "hide " ++ xs) e ∙ behind_name text (codes "hide ") number 5 t d; in_range = h }

-- what a command asks for reads no source, and opens a proof in memory
pub asked-ready : {S A : Type 0} (seen : S → Input) (c : Call Taken S A) (command : Command) → AsksFor c command → MayStillFail seen (λ t. t) c
asked-ready seen (call.WriteProof target format) ProofText (e, f) = subst (λ (t : Taken). t.faults < 2 ^ 64 - 1) (sym e) (omega arith)
asked-ready seen (call.WriteProof target format) ProofBinary (e, f) = subst (λ (t : Taken). t.faults < 2 ^ 64 - 1) (sym e) (omega arith)
asked-ready seen (call.WriteProof target format) ProofMarked (e, f) = subst (λ (t : Taken). t.faults < 2 ^ 64 - 1) (sym e) (omega arith)
asked-ready seen (call.WriteProof target format) command h = absurd h
asked-ready seen (call.AddDimacsCnf source) command h = absurd h
asked-ready seen c command h = tt
