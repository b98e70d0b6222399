-- Several bytes of one token at a time.
use Rattle.std.proofs.Common.{◌≡◌, ℕ, ◌+◌, ◌-◌, ◌*◌, ◌^◌, ◌<◌, ◌≤◌, List, [], ◌∷◌, ◌++◌, ◌⊎◌, Bool, true, false, ◌==◌, nat_lt, zero, suc, inl, inr, if◌then◌else◌, refl, sym, ap, subst, ◌∙◌, length, take, drop, get_or, arith, rules, None}
use Rattle.std.proofs.Math.Nat.{pow-le-pow_right, pow-succ'}
use Rattle.std.proofs.Math.Seq.{take-add}
use Rattle.varisat_literals.specs.promises.Numbers.{variable_limit}
use Rattle.std.proofs.lemmas.List.{get_or-drop, length-drop, take_all, take_more}
use Rattle.varisat_formula.specs.declared.dimacs.token.Digits.TheVariants.{Number, NoNumber}
use Rattle.varisat_formula.specs.declared.dimacs.token.Word.{Word}
use Rattle.varisat_formula.specs.declared.dimacs.header.HeaderPart.TheVariants.{Name}
use Rattle.varisat_formula.specs.declared.dimacs.parser.ParserState.{ParserState}
use Rattle.varisat_formula.specs.declared.dimacs.parser.ParserState.TheVariants.{Start, Comment, Header, Plain}
use Rattle.varisat_formula.specs.declared.dimacs.token.Meaning.TheVariants.{End}
use Rattle.varisat_formula.specs.promises.Dimacs.{Reading, Token, after_token, step_by, next, is_blank, is_digit, is_line_feed, read}
use Rattle.varisat_formula.specs.inside.Machine.{after_byte, after_digit, grown, no_word, a_number, GoesOnTo}
use Rattle.varisat_formula.specs.promises.Rest.{Progress, AdvancesBy, IsBetween, ReadsOn, start_place, word_items}
use Rattle.varisat_formula.proofs.TokenBytes.{grown_below, digit_bound}
use Rattle.varisat_formula.proofs.ParserProgress.{LineStep, advances_none, advances_more, reads_byte, reads_line_feed, start_more, plain_more, plain_blank}

goes_on_more : (w v u : Word) (xs ys : List ℕ) → GoesOnTo w xs v → GoesOnTo v ys u → GoesOnTo w (xs ++ ys) u
goes_on_more w v u [] ys e h = subst (λ x. GoesOnTo x ys u) (sym e) h
goes_on_more w v u (x ∷ xs) ys g h = (g.0, goes_on_more (after_byte w x) v u xs ys g.1 h)

-- what a slice from a place on has
pub rest_of : (i : ℕ) (xs : List ℕ) → take (length xs - i) (drop i xs) ≡ drop i xs
rest_of i xs = take_all (length xs - i) (drop i xs) (omega (arith, length-drop i xs))

-- 1. Digits.
not_blank : (b : ℕ) → is_digit b ≡ true → is_blank b ≡ false
not_blank b h = let k = digit_bound b h in search (rules, k)

after_number : (m : Bool) (n b : ℕ) → after_byte (a_number m n) b ≡ record { minus = m; digits = after_digit (Number n) b }
after_number true n b = refl
after_number false n b = refl

one_digit_more : (m : Bool) (n b : ℕ) → 0 < n → n < 2 ^ 32 → is_digit b ≡ true → after_byte (a_number m n) b ≡ a_number m (n * 10 + (b - 48))
one_digit_more m n b p s h =
    let k = digit_bound b h in
    after_number m n b
    ∙ ap (λ t. record { minus = m; digits = if t then grown n (b - 48) else NoNumber }) h
    ∙ sym (ap (λ d. record { minus = m; digits = d }) (grown_below n (b - 48) (λ e. absurd (omega (arith, e, p))) (omega (arith, s, k))))

digit_behind : (w : Word) (m : Bool) (n d : ℕ) (bytes : List ℕ) (i : ℕ) → i < length bytes → 0 < n → n < 2 ^ 32 → is_digit (get_or bytes i 0) ≡ true →
    d ≡ get_or bytes i 0 - 48 → GoesOnTo w (take i bytes) (a_number m n) → GoesOnTo w (take (i + 1) bytes) (a_number m (n * 10 + d))
digit_behind w m n d bytes i l p s h e g =
    let b = get_or bytes i 0 in
    subst (λ t. GoesOnTo w t (a_number m (n * 10 + d))) (sym (take_more bytes i 0 l))
    (goes_on_more w (a_number m n) (a_number m (n * 10 + d)) (take i bytes) (b ∷ []) g
    (not_blank b h, one_digit_more m n b p s h ∙ ap (λ x. a_number m (n * 10 + x)) (sym e)))

pub digit_more : (w : Word) (m : Bool) (n d : ℕ) (bytes : List ℕ) (at end : ℕ) → at ≤ end → end < length bytes → 0 < n → n < 2 ^ 32 →
    is_digit (get_or bytes end 0) ≡ true → d ≡ get_or bytes end 0 - 48 → GoesOnTo w (take (end - at) (drop at bytes)) (a_number m n) →
    GoesOnTo w (take (end + 1 - at) (drop at bytes)) (a_number m (n * 10 + d))
digit_more w m n d bytes at end b l p s h e g =
    let here : at + (end - at) ≡ end = omega (arith, b) in
    let more : end - at + 1 ≡ end + 1 - at = omega (arith, b) in
    let within = length-drop at bytes in
    let same : get_or (drop at bytes) (end - at) 0 ≡ get_or bytes end 0 = get_or-drop at bytes (end - at) 0 ∙ ap (λ i. get_or bytes i 0) here in
    subst (λ k. GoesOnTo w (take k (drop at bytes)) (a_number m (n * 10 + d))) more
    (digit_behind w m n d (drop at bytes) (end - at) (omega (arith, within, l, b)) p s (ap is_digit same ∙ h) (e ∙ ap (λ x. x - 48) (sym same)) g)

-- a number up to the limit has at most nine digits
few_digits : (k n : ℕ) → 10 ^ k ≤ n → n ≤ variable_limit → k ≤ 8
few_digits k n h l = by_size (nat_lt 8 k) refl
  where
    by_size : (t : Bool) → nat_lt 8 k ≡ t → k ≤ 8
    by_size true e =
        let many : 9 ≤ k = search (rules, e) in
        let large : 10 ^ 9 ≤ 10 ^ k = pow-le-pow_right (omega arith) many in
        absurd (omega (arith, large, h, l))
    by_size false e = search (rules, e)

pub digits_within : (size at sign end n : ℕ) → 11 ≤ size - at → sign ≤ 1 → 10 ^ (end - (at + sign) - 1) ≤ n → n ≤ variable_limit → end < size
digits_within size at sign end n s h p l = let k = few_digits (end - (at + sign) - 1) n p l in omega (arith, s, h, k)

pub power_more : (start end n d : ℕ) → start < end → 10 ^ (end - start - 1) ≤ n → 10 ^ (end + 1 - start - 1) ≤ n * 10 + d
power_more start end n d s h =
    let e : end + 1 - start - 1 ≡ suc (end - start - 1) = omega (arith, s) in
    let q : 10 ^ suc (end - start - 1) ≡ 10 * 10 ^ (end - start - 1) = pow-succ' 10 (end - start - 1) in
    subst (λ k. 10 ^ k ≤ n * 10 + d) (sym e) (subst (λ x. x ≤ n * 10 + d) (sym q) (omega (arith, h)))

-- 2. A byte that is no blank.
pub byte_more : (w v u : Word) (bytes : List ℕ) (i : ℕ) → i < length bytes → is_blank (get_or bytes i 0) ≡ false → u ≡ after_byte v (get_or bytes i 0) →
    GoesOnTo w (take i bytes) v → GoesOnTo w (take (i + 1) bytes) u
byte_more w v u bytes i l h e g =
    subst (λ t. GoesOnTo w t u) (sym (take_more bytes i 0 l)) (goes_on_more w v u (take i bytes) (get_or bytes i 0 ∷ []) g (h, sym e))

-- 3. What they make of the reader.
pub no_feed : (b : ℕ) → is_blank b ≡ false → is_line_feed b ≡ false
no_feed b h = search (rules, h)

pub advances_word : (p q : Progress) (w v : Word) (bs : List ℕ) → GoesOnTo w bs v → p.over ≡ false → p.place ≡ Plain w →
    q ≡ record p { place = Plain v } → AdvancesBy p bs q
advances_word p q w v [] g e f k =
    let same : p ≡ q = ap (λ x. record p { place = x }) (f ∙ ap Plain g) ∙ sym k in
    subst (λ x. AdvancesBy p [] x) same (advances_none p)
advances_word p q w v (b ∷ bs) g e f k =
    let s : Progress = record p { place = Plain (after_byte w b) } in
    advances_more p s q (b ∷ []) bs
    (reads_byte p p s b [] (Plain w) (Plain (after_byte w b)) refl e f refl (plain_more p.line w b g.0) (no_feed b g.0))
    (advances_word s q (after_byte w b) v bs g.1 e refl k)

-- where the token goes on
abbrev pub in_token : Word → Progress → Progress
in_token w p = record p { place = Plain w }

-- a run of bytes behind a part of a piece
advances_run : (p s q : Progress) (piece : List ℕ) (i k : ℕ) → AdvancesBy p (take i piece) s →
    AdvancesBy s (take k (take (length piece - i) (drop i piece))) q →
    AdvancesBy p (take (i + k) piece) q
advances_run p s q piece i k f g =
    subst (λ t. AdvancesBy p t q) (sym (take-add i k piece)) (advances_more p s q (take i piece) (take k (drop i piece)) f
    (subst (λ t. AdvancesBy s (take k t) q) (rest_of i piece) g))

-- a byte more
pub advances_one : (p s q : Progress) (piece : List ℕ) (i : ℕ) → i < length piece → AdvancesBy p (take i piece) s →
    AdvancesBy s (get_or piece i 0 ∷ []) q → AdvancesBy p (take (i + 1) piece) q
advances_one p s q piece i l f g =
    subst (λ t. AdvancesBy p t q) (sym (take_more piece i 0 l)) (advances_more p s q (take i piece) (get_or piece i 0 ∷ []) f g)

-- the whole piece
pub advances_whole : (p q : Progress) (piece : List ℕ) (i : ℕ) → i ≡ length piece → AdvancesBy p (take i piece) q → AdvancesBy p piece q
advances_whole p q piece i e f = subst (λ t. AdvancesBy p t q) (take_all i piece (omega (arith, e))) f

run_within : (i k : ℕ) (xs : List ℕ) → i ≤ length xs → k ≤ length (take (length xs - i) (drop i xs)) → i + k ≤ length xs
run_within i k xs h l = let e = ap length (rest_of i xs) in let d = length-drop i xs in omega (arith, h, l, e, d)

pub reads_on : (p s q : Progress) (piece : List ℕ) (i k : ℕ) → ReadsOn p piece i s → ReadsOn s (take (length piece - i) (drop i piece)) k q →
    ReadsOn p piece (i + k) q
reads_on p s q piece i k f g = record {
  within = run_within i k piece f.within g.within;
  reads = advances_run p s q piece i k f.reads g.reads;
  goes_on = g.goes_on;
}

pub before_end : (i n : ℕ) → i ≤ n → (i ≡ n → ⊥) → i < n
before_end i n l h = grind (arith, l, h)

-- a token ends
token_end : (s : Progress) (v : Word) (b : ℕ) → s.over ≡ false → is_blank b ≡ true → is_line_feed b ≡ false →
    AdvancesBy (in_token v s) (b ∷ []) (record s { place = Plain no_word; reading = read s.reading (word_items s.line v) })
token_end s v b e h n =
    reads_byte (in_token v s) (in_token v s) _ b (word_items s.line v) (Plain v) (Plain no_word) refl e refl refl (plain_blank s.line v b h) n

no_line_feed : (b : ℕ) → (b ≡ 10 → ⊥) → is_line_feed b ≡ false
no_line_feed b n = search (rules, n)

token_ends : (p s t : Progress) (v : Word) (piece : List ℕ) (i : ℕ) → i < length piece → AdvancesBy p (take i piece) (in_token v s) → s.over ≡ false →
    is_blank (get_or piece i 0) ≡ true → (get_or piece i 0 ≡ 10 → ⊥) → t ≡ record s { reading = read s.reading (word_items s.line v) } →
    AdvancesBy p (take (i + 1) piece) (in_token no_word t)
token_ends p s t v piece i l f e h n k =
    advances_one p (in_token v s) (in_token no_word t) piece i l f
    (subst (λ x. AdvancesBy (in_token v s) (get_or piece i 0 ∷ []) (in_token no_word x)) (sym k)
    (token_end s v (get_or piece i 0) e h (no_line_feed (get_or piece i 0) n)))

-- a literal that begins between two tokens, and the space behind it
begins_word : (b : ℕ) → b ≤ 57 → is_blank b ≡ false → start_place b ≡ Plain (after_byte no_word b)
begins_word b h k =
    let no_comment : (b == 99) ≡ false = search (rules, h) in
    let no_header : (b == 112) ≡ false = search (rules, h) in
    let plain : ParserState = Plain (after_byte no_word b) in
    ap (λ t. if t then Comment else (if b == 112 then Header Name else (if is_blank b then Plain no_word else plain))) no_comment
    ∙ ap (λ t. if t then Header Name else (if is_blank b then Plain no_word else plain)) no_header
    ∙ ap (λ t. if t then Plain no_word else plain) k

from_start : (s : Progress) (v : Word) (bs : List ℕ) → s.over ≡ false → 0 < length bs → get_or bs 0 0 ≤ 57 → GoesOnTo no_word bs v →
    AdvancesBy (record s { place = Start }) bs (in_token v s)
from_start s v [] e l h g = absurd (omega (arith, l))
from_start s v (b ∷ bs) e l h g =
    let begun : Progress = in_token (after_byte no_word b) s in
    let starts : Progress = record s { place = Start } in
    let step = subst (λ x. LineStep s.line Start b [] x) (begins_word b h g.0) (start_more s.line b) in
    advances_more starts begun (in_token v s) (b ∷ []) bs
    (reads_byte starts starts begun b [] Start (Plain (after_byte no_word b)) refl e refl refl step (no_feed b g.0))
    (advances_word begun (in_token v s) (after_byte no_word b) v bs g.1 e refl refl)

from_between : (s : Progress) (place : ParserState) (v : Word) (bs : List ℕ) → IsBetween place → s.over ≡ false → 0 < length bs → get_or bs 0 0 ≤ 57 →
    GoesOnTo no_word bs v → AdvancesBy (record s { place = place }) bs (in_token v s)
from_between s place v bs b e l h g =
    elim b [
      | inl k ↦ subst (λ x. AdvancesBy (record s { place = x }) bs (in_token v s)) (sym k) (from_start s v bs e l h g)
      | inr k ↦ advances_word (record s { place = place }) (in_token v s) no_word v bs g e k refl
    ]

literal_ends_at : (p s t : Progress) (place : ParserState) (v : Word) (bytes : List ℕ) (at end : ℕ) → IsBetween place → s.over ≡ false →
    AdvancesBy p (take at bytes) (record s { place = place }) → at < end → end < length bytes → get_or bytes at 0 ≤ 57 →
    GoesOnTo no_word (take (end - at) (drop at bytes)) v → get_or bytes end 0 ≡ 32 → t ≡ record s { reading = read s.reading (word_items s.line v) } →
    AdvancesBy p (take (end + 1) bytes) (in_token no_word t)
literal_ends_at p s t place v bytes at end b e f some l h g space t_is =
    let d = length-drop at bytes in
    let size : 0 < length (take (end - at) (drop at bytes)) = some_front (end - at) (drop at bytes) (omega (arith, some)) (omega (arith, l, some, d)) in
    let front : get_or (take (end - at) (drop at bytes)) 0 0 ≡ get_or bytes at 0 = front_of (end - at) (drop at bytes) (omega (arith, some))
    ∙ get_or-drop at bytes 0 0 ∙ ap (λ i. get_or bytes i 0) (omega arith) in
    let read_on = from_between s place v (take (end - at) (drop at bytes)) b e size (subst (λ x. x ≤ 57) (sym front) h) g in
    let here : AdvancesBy p (take end bytes) (in_token v s) = subst (λ n. AdvancesBy p (take n bytes) (in_token v s)) (omega (arith, some))
    (subst (λ xs. AdvancesBy p xs (in_token v s)) (sym (take-add at (end - at) bytes))
    (advances_more p (record s { place = place }) (in_token v s) (take at bytes) (take (end - at) (drop at bytes)) f read_on)) in
    token_ends p s t v bytes end l here e (ap is_blank space) (no_space space) t_is
  where
    some_front : (k : ℕ) (xs : List ℕ) → 0 < k → 0 < length xs → 0 < length (take k xs)
    some_front zero xs p l = absurd (omega (arith, p))
    some_front (suc k) [] p l = absurd (omega (arith, l))
    some_front (suc k) (x ∷ xs) p l = omega arith

    front_of : (k : ℕ) (xs : List ℕ) → 0 < k → get_or (take k xs) 0 0 ≡ get_or xs 0 0
    front_of zero xs p = absurd (omega (arith, p))
    front_of (suc k) [] p = refl
    front_of (suc k) (x ∷ xs) p = refl

    no_space : {n : ℕ} → n ≡ 32 → n ≡ 10 → ⊥
    no_space e f = omega (arith, e, f)

-- so many bytes were read, which are none or end between two tokens; the place is not yet written
abbrev pub ReadsBetween : Progress → List ℕ → ℕ → Progress → Type 0
ReadsBetween p bytes n q = ((n ≡ 0) × (q ≡ p)) ⊎ ((0 < n) × AdvancesBy p (take n bytes) (in_token no_word q))

pub literal_ends : (p s t : Progress) (v : Word) (bytes : List ℕ) (at end : ℕ) → IsBetween p.place → s.over ≡ false → ReadsBetween p bytes at s →
    at < end → end < length bytes → get_or bytes at 0 ≤ 57 → GoesOnTo no_word (take (end - at) (drop at bytes)) v → get_or bytes end 0 ≡ 32 →
    t ≡ record s { reading = read s.reading (word_items s.line v) } → AdvancesBy p (take (end + 1) bytes) (in_token no_word t)
literal_ends p s t v bytes at end b e r some l h g space t_is =
    elim r [
      | inl z ↦ literal_ends_at p s t p.place v bytes at end b e (none_yet z.0 z.1) some l h g space t_is
      | inr y ↦ literal_ends_at p s t (Plain no_word) v bytes at end (inr refl) e y.1 some l h g space t_is
    ]
  where
    none_yet : at ≡ 0 → s ≡ p → AdvancesBy p (take at bytes) (record s { place = p.place })
    none_yet z q =
        subst (λ n. AdvancesBy p (take n bytes) (record s { place = p.place })) (sym z)
        (subst (λ x. AdvancesBy p [] (record x { place = p.place })) (sym q) (advances_none p))

-- the end of a clause and of its line
pub end_reads : (p q : Progress) (bytes : List ℕ) → p.over ≡ false → p.reading.fault ≡ None → IsBetween p.place → 2 ≤ length bytes →
    get_or bytes 0 0 ≡ 48 → get_or bytes 1 0 ≡ 10 → q ≡ record p { line = next p.line; place = Start; reading = after_token p.reading p.line End } →
    AdvancesBy p (take 2 bytes) q
end_reads p q [] e h b l x y k = absurd (omega (arith, l))
end_reads p q (c ∷ []) e h b l x y k = absurd (omega (arith, l))
end_reads p q (c ∷ d ∷ rest) e h b l x y k =
    subst (λ n. AdvancesBy p (n ∷ d ∷ []) q) (sym x) (subst (λ n. AdvancesBy p (48 ∷ n ∷ []) q) (sym y)
    (advances_more p (in_token zero_word p) q (48 ∷ []) (10 ∷ [])
    (from_between p p.place zero_word (48 ∷ []) b e (omega arith) (omega arith) (refl, refl))
    (reads_line_feed (in_token zero_word p) q 10 e refl (k ∙ ap ended (sym (ap (λ f. step_by f p.reading (Token p.line End)) h))))))
  where
    zero_word : Word
    zero_word = a_number false 0

    ended : Reading → Progress
    ended r = record p { line = next p.line; place = Start; reading = r }
