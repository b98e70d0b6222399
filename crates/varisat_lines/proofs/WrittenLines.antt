-- What is written for lines is accepted for them.
use Rattle.std.proofs.Common.{Some, None, ◌≡◌, ℕ, zero, suc, ◌+◌, ◌*◌, ◌/◌, ◌%◌, ◌^◌, ◌<◌, ◌≤◌, List, [], ◌∷◌, ◌++◌, length, Bool, true, false, ◌&&◌, ◌||◌, ◌==◌, nat_lt, nat_le, if◌then◌else◌, flat_map, refl, sym, ap, subst, ◌∙◌, append_assoc, append-nil, ◌⊎◌, inl, inr, arith, rules}
use Rattle.std.proofs.lemmas.Bool.{lt-ltb, le-ltb, le-leb, eqb-true}
use Rattle.varisat_theory.specs.promises.Membership.{◌∈◌}
use Rattle.varisat_theory.specs.promises.Literals.{Literal, Clause}
use Rattle.varisat_formula.specs.declared.dimacs.token.Meaning.TheVariants as meant_as
use Rattle.varisat_formula.specs.promises.Dimacs.{is_blank, meaning, next}
use Rattle.varisat_literals.specs.promises.Numbers.{literal_text, variable_limit}
use Rattle.varisat_formula.specs.promises.Written.{spaced_literals}
use Rattle.varisat_formula.proofs.DecimalDigits.{literal_text_is}
use Rattle.varisat_formula.proofs.WrittenTexts.{Solid, Spells, literal_case}
use Rattle.varisat_lines.specs.declared.format.Encoding.{Encoding}
use Rattle.varisat_lines.specs.declared.format.Encoding.TheVariants.{Text, Binary}
use Rattle.varisat_lines.specs.declared.format.LineKind.{LineKind}
use Rattle.varisat_lines.specs.declared.format.LineKind.TheVariants.{Adds, Deletes, Accepts, Assumes, Fails}
use Rattle.varisat_lines.specs.declared.token.Symbol.TheVariants.{Mark, Number, Bad}
use Rattle.varisat_lines.specs.promises.Written.{line_text, leb128_by, leb128, codes_bytes, line_bytes, Written, AreInRange}
use Rattle.varisat_lines.specs.promises.Lines.{ProofLine, line_of_kind, has_kind, HasKinds, letter, letter_kind}
use Rattle.varisat_lines.specs.promises.Grammar.{Token, is_kind, meant, text_symbol, value_of, is_none, binary_symbol, text_token, text_tokens, binary_tokens, symbols, literal_symbols, line_symbols, Accepted}
use Rattle.varisat_lines.specs.inside.Machine.{scale}
use Rattle.varisat_lines.proofs.MachineTokens.{value_more, length_more}

-- 1. The bytes of a literal's text.
literal_spells : (l : ℕ) → l < 2 ^ 29 → Spells (literal_text l) l
literal_spells l h = let s : l / 2 < variable_limit = omega arith in subst (λ t. Spells t l) (sym (literal_text_is l)) (literal_case (l % 2 == 0) l s refl)

-- a mark says no number
mark_says : (marked t u v w : Bool) (b l : ℕ) → (b == 100) ≡ t → (b == 105) ≡ u → (b == 113) ≡ v → (b == 102) ≡ w → meaning (b ∷ []) ≡ meant_as.Literal l →
    is_kind (if t then Some
    Deletes else (if marked then (if u then Some Accepts else (if v then Some Assumes else (if w then Some Fails else None))) else None)) ≡ false
mark_says marked true u v w b l e f g h k = absurd (let z : meaning (100 ∷ []) ≡ meant_as.Literal l = subst (λ x. meaning (x ∷ []) ≡ meant_as.Literal l)
    (eqb-true b 100 e) k in cc)
mark_says false false u v w b l e f g h k = refl
mark_says true false true v w b l e f g h k = absurd (let z : meaning (105 ∷ []) ≡ meant_as.Literal l = subst (λ x. meaning (x ∷ []) ≡ meant_as.Literal l)
    (eqb-true b 105 f) k in cc)
mark_says true false false true w b l e f g h k = absurd (let z : meaning (113 ∷ []) ≡ meant_as.Literal
    l = subst (λ x. meaning (x ∷ []) ≡ meant_as.Literal l) (eqb-true b 113 g) k in cc)
mark_says true false false false true b l e f g h k = absurd
    (let z : meaning (102 ∷ []) ≡ meant_as.Literal l = subst (λ x. meaning (x ∷ []) ≡ meant_as.Literal l) (eqb-true b 102 h) k in cc)
mark_says true false false false false b l e f g h k = refl

symbol_of_text : (marked : Bool) (t : List ℕ) (l : ℕ) → meaning t ≡ meant_as.Literal l → text_symbol marked t ≡ Number (l + 2)
symbol_of_text marked [] l h = absurd cc
symbol_of_text marked (b ∷ []) l h = ap (λ t. if t then Mark b else meant (meaning (b ∷ [])))
    (mark_says marked (b == 100) (b == 105) (b == 113) (b == 102) b l refl refl refl refl h) ∙ ap meant h
symbol_of_text marked (b ∷ c ∷ bs) l h = ap meant h

some_token : (t : List ℕ) (l : ℕ) → meaning t ≡ meant_as.Literal l → t ≡ [] → ⊥
some_token t l h e = let f : meaning [] ≡ meant_as.Literal l = subst (λ x. meaning x ≡ meant_as.Literal l) e h in absurd cc

-- 2. Text.
abbrev Small : Clause → Type 0
Small c = (l : Literal) → l ∈ c → l < 2 ^ 29

zero_symbol : (marked : Bool) → text_symbol marked (48 ∷ []) ≡ Number 0
zero_symbol true = refl
zero_symbol false = refl

module _ (marked : Bool) where
  solid_tokens : (t : List ℕ) → Solid t → (at start : ℕ) (word rest : List ℕ) → (a : ℕ)
      × (text_tokens marked at start word (t ++ rest) ≡ text_tokens marked a start (word ++ t) rest)
  solid_tokens [] s at start word rest = (at, ap (λ x. text_tokens marked at start x rest) (sym (append-nil word)))
  solid_tokens (b ∷ bs) s at start word rest =
      let r = solid_tokens bs s.1 (next at) start (word ++ b ∷ []) rest in (
        r.0,
        ap (λ t. if t then text_token marked start word ++ text_tokens marked (next at) (next at) [] (bs ++ rest) else text_tokens marked (next at)
            start (word ++ b ∷ []) (bs ++ rest)) s.0 ∙ r.1 ∙ ap (λ x. text_tokens marked r.0 start x rest) (append_assoc word (b ∷ []) bs),
      )

  token_symbols : (t : List ℕ) (start : ℕ) (us : List Token) → (t ≡ [] → ⊥) → symbols (text_token marked start t ++ us) ≡ text_symbol marked t ∷ symbols us
  token_symbols [] start us h = absurd (h refl)
  token_symbols (b ∷ bs) start us h = refl

  -- a literal and a space
  literal_read : (l : ℕ) → l < 2 ^ 29 → (at : ℕ) (rest : List ℕ) → (a : ℕ)
      × (symbols (text_tokens marked at at [] (literal_text l ++ 32 ∷ rest)) ≡ Number (l + 2) ∷ symbols (text_tokens marked a a [] rest))
  literal_read l h at rest =
      let s = literal_spells l h in
      let r = solid_tokens (literal_text l) s.solid at at [] (32 ∷ rest) in (
        next r.0,
        ap symbols r.1 ∙ token_symbols (literal_text l) at (text_tokens marked (next r.0) (next r.0) [] rest)
            (some_token (literal_text l) l s.says) ∙ ap (λ x. x ∷ symbols (text_tokens marked (next r.0) (next r.0) [] rest))
            (symbol_of_text marked (literal_text l) l s.says),
      )

  clause_read : (c : Clause) → Small c → (at : ℕ) (rest : List ℕ) → (a : ℕ)
      × (symbols (text_tokens marked at at [] ((spaced_literals c ++ 48 ∷ 10 ∷ []) ++ rest)) ≡ (literal_symbols c ++ Number 0 ∷ []) ++ symbols
      (text_tokens marked a a [] rest))
  clause_read [] h at rest = (next (next at), ap (λ s. s ∷ symbols (text_tokens marked (next (next at)) (next (next at)) [] rest)) (zero_symbol marked))
  clause_read (l ∷ c) h at rest =
      let one = literal_read l (h l (inl refl)) at ((spaced_literals c ++ 48 ∷ 10 ∷ []) ++ rest) in
      let two = clause_read c (λ m k. h m (inr k)) one.0 rest in (
        two.0,
        ap (λ x. symbols (text_tokens marked at at [] x)) (ap (λ x. x ++ rest) (append_assoc (literal_text l) (32 ∷ spaced_literals c) (48 ∷ 10 ∷ [])) ∙
            append_assoc (literal_text l) (32 ∷ (spaced_literals c ++ 48 ∷ 10 ∷ [])) rest)
            ∙ one.1 ∙ ap (λ ss. Number (l + 2) ∷ ss) two.1,
      )

  -- a letter and a space in front
  letter_read : (kind : LineKind) (c : Clause) → Small c → is_kind (letter_kind marked (letter kind)) ≡ true → is_blank (letter kind) ≡ false →
      (at : ℕ) (rest : List ℕ) →
      (a : ℕ) × (symbols (text_tokens marked at at [] ((letter kind ∷ 32 ∷ (spaced_literals c ++ 48 ∷ 10 ∷ [])) ++ rest)) ≡ Mark
      (letter kind) ∷ ((literal_symbols c ++ Number 0 ∷ []) ++ symbols (text_tokens marked a a [] rest)))
  letter_read kind c h m s at rest =
      let bytes = (spaced_literals c ++ 48 ∷ 10 ∷ []) ++ rest in
      let r = clause_read c h (next (next at)) rest in (
        r.0,
        ap (λ t. symbols (if t then text_token marked at [] ++ text_tokens marked (next at) (next at) [] (32 ∷ bytes) else text_tokens marked (next at) at
            (letter kind ∷ []) (32 ∷ bytes))) s
            ∙ ap (λ t. (if t then Mark (letter kind) else meant (meaning (letter kind ∷ []))) ∷ symbols
            (text_tokens marked (next (next at)) (next (next at)) [] bytes)) m
            ∙ ap (λ ss. Mark (letter kind) ∷ ss) r.1,
      )

  kind_read : (kind : LineKind) (c : Clause) → has_kind (Text marked) kind ≡ true → Small c → (at : ℕ) (rest : List ℕ) → (a : ℕ)
      × (symbols (text_tokens marked at at [] (line_text (line_of_kind kind c) ++ rest)) ≡ line_symbols (Text marked) (line_of_kind kind c) ++ symbols
      (text_tokens marked a a [] rest))
  kind_read Adds c k h at rest = clause_read c h at rest
  kind_read Deletes c k h at rest = letter_read Deletes c h refl refl at rest
  kind_read Accepts c k h at rest = letter_read Accepts c h (ap (λ t. is_kind (letter_kind t 105)) k) refl at rest
  kind_read Assumes c k h at rest = letter_read Assumes c h (ap (λ t. is_kind (letter_kind t 113)) k) refl at rest
  kind_read Fails c k h at rest = letter_read Fails c h (ap (λ t. is_kind (letter_kind t 102)) k) refl at rest

  lines_read : (lines : List ProofLine) → HasKinds (Text marked) lines → AreInRange lines → (at : ℕ) →
      symbols (text_tokens marked at at [] (flat_map line_text lines)) ≡ flat_map (line_symbols (Text marked)) lines
  lines_read [] k h at = refl
  lines_read (line ∷ lines) k h at =
      let r = kind_read line.kind line.clause k.0 (λ l m. h line l (inl refl) m) at (flat_map line_text lines) in
      r.1 ∙ ap (λ ss. line_symbols (Text marked) line ++ ss) (lines_read lines k.1 (λ other l m n. h other l (inr m) n) r.0)

-- 3. Binary.
scale_more : (front : List ℕ) (b : ℕ) → length front < 4 → scale (length (front ++ b ∷ [])) ≡ 128 * scale (length front)
scale_more [] b h = refl
scale_more (x ∷ []) b h = refl
scale_more (x ∷ y ∷ []) b h = refl
scale_more (x ∷ y ∷ z ∷ []) b h = refl
scale_more (x ∷ y ∷ z ∷ w ∷ rest) b h = absurd (omega arith)

scale_four : (n : ℕ) → n ≡ 4 → scale n ≡ 0x1000_0000
scale_four n e = ap scale e

none_or : (front : List ℕ) (n : ℕ) → (is_none front ≡ true) ⊎ (0 < n) → (nat_lt 0 n || is_none front) ≡ true
none_or front n (inl e) = ap (λ t. nat_lt 0 n || t) e ∙ or_true (nat_lt 0 n)
  where
    or_true : (t : Bool) → (t || true) ≡ true
    or_true true = refl
    or_true false = refl
none_or front n (inr h) = let e : nat_lt 0 n ≡ true = search (rules, h) in ap (λ t. t || is_none front) e

not_four : (n : ℕ) → n < 4 → (n == 4) ≡ false
not_four n h = search (rules, h)

-- the last byte
last_byte : (n v : ℕ) (front : List ℕ) (at start : ℕ) (rest : List ℕ) → n < 128 → length front ≤ 4 → (is_none front ≡ true) ⊎ (0 < n) →
    value_of front + scale (length front) * n ≡ v → v ≤ 2 ^ 29 + 1 →
    symbols (binary_tokens at start front (n ∷ rest)) ≡ Number v ∷ symbols (binary_tokens (next at) (next at) [] rest)
last_byte n v front at start rest small few some e h =
    let l = lt-ltb n 128 small in
    let m : n % 128 ≡ n = omega arith in
    let value : value_of (front ++ n ∷ []) ≡ v = sym (value_more front n few) ∙ ap (λ x. value_of front + scale (length front) * x) m ∙ e in
    let more = binary_tokens (next at) (next at) [] rest in
    ap (λ t. symbols (if t || length front == 4 then record { at = start; symbol = binary_symbol front n } ∷ more else binary_tokens (next at) start
    (front ++ n ∷ []) rest)) l
    ∙ ap (λ t. (if t && (nat_lt 0 n || is_none front) && nat_le (value_of (front ++ n ∷ [])) (2 ^ 29 + 1) then Number
    (value_of (front ++ n ∷ [])) else Bad) ∷ symbols more) l
    ∙ ap (λ t. (if t && nat_le (value_of (front ++ n ∷ [])) (2 ^ 29 + 1) then Number (value_of (front ++ n ∷ [])) else Bad) ∷ symbols more)
    (none_or front n some)
    ∙ ap (λ x. (if nat_le x (2 ^ 29 + 1) then Number x else Bad) ∷ symbols more) value
    ∙ ap (λ t. (if t then Number v else Bad) ∷ symbols more) (le-leb v (2 ^ 29 + 1) h)

-- the values with a byte more
value_on : (a b m n v : ℕ) → b % 128 ≡ n % 128 → a + m * n ≡ v → (a + m * (b % 128)) + (128 * m) * (n / 128) ≡ v
value_on a b m n v f e =
    let d : n ≡ 128 * (n / 128) + n % 128 = omega arith in
    let p = ap (λ x. m * x) d in
    let q = ap (λ x. m * x) f in
    omega (arith, p, q, e)

number_case : (t : Bool) (k n v : ℕ) (front : List ℕ) (at start : ℕ) (rest : List ℕ) → nat_lt n 128 ≡ t → length front + suc k ≡ 4 → (is_none front ≡ true)
    ⊎ (0 < n) → value_of front + scale (length front) * n ≡ v → v ≤ 2 ^ 29 + 1 →
    ((front : List ℕ) (n at : ℕ) → length front + k ≡ 4 → (is_none front ≡ true) ⊎ (0 < n) → value_of front + scale (length front) * n ≡ v → (a : ℕ)
    × (symbols (binary_tokens at start front (leb128_by k n ++ rest)) ≡ Number v ∷ symbols (binary_tokens a a [] rest))) →
    (a : ℕ) × (symbols (binary_tokens at start front ((if t then n ∷ [] else (128 + n % 128) ∷ leb128_by k (n / 128)) ++ rest)) ≡ Number v ∷ symbols
    (binary_tokens a a [] rest))
number_case true k n v front at start rest t few some e h more =
    let small : n < 128 = search (rules, t) in
    (next at, last_byte n v front at start rest small (omega arith) some e h)
number_case false k n v front at start rest t few some e h more =
    let large : 128 ≤ n = search (rules, t) in
    let b = 128 + n % 128 in
    let f : b % 128 ≡ n % 128 = omega arith in
    let short : length front < 4 = omega arith in
    let len = length_more front b in
    let value : value_of (front ++ b ∷ []) + scale (length (front ++ b ∷ [])) * (n / 128) ≡ v =
    ap (λ x. x + scale (length (front ++ b ∷ [])) * (n / 128)) (sym (value_more front b (omega arith))) ∙
    ap (λ x. (value_of front + scale (length front) * (b % 128)) + x * (n / 128)) (scale_more front b short) ∙
    value_on (value_of front) b (scale (length front)) n v f e in
    let r = more (front ++ b ∷ []) (n / 128) (next at) (omega (arith, len)) (inr (omega arith)) value in
    let one = le-ltb b 128 (omega arith) in
    let two = not_four (length front) short in
    let there : List Token = record { at = start; symbol = binary_symbol front b } ∷ binary_tokens (next at) (next at) [] (leb128_by k (n / 128) ++ rest) in
    let on = binary_tokens (next at) start (front ++ b ∷ []) (leb128_by k (n / 128) ++ rest) in
    (r.0, ap (λ t. symbols (if t || length front == 4 then there else on)) one ∙ ap (λ t. symbols (if t then there else on)) two ∙ r.1)

number_read : (k n v : ℕ) (front : List ℕ) (at start : ℕ) (rest : List ℕ) → length front + k ≡ 4 → (is_none front ≡ true) ⊎ (0 < n) →
    value_of front + scale (length front) * n ≡ v → v ≤ 2 ^ 29 + 1 →
    (a : ℕ) × (symbols (binary_tokens at start front (leb128_by k n ++ rest)) ≡ Number v ∷ symbols (binary_tokens a a [] rest))
number_read zero n v front at start rest few some e h =
    let l : length front ≡ 4 = omega arith in
    let s = ap (λ x. x * n) (scale_four (length front) l) in
    (next at, last_byte n v front at start rest (omega (arith, s, e)) (omega arith) some e h)
number_read (suc k) n v front at start rest few some e h =
    number_case (nat_lt n 128) k n v front at start rest refl few some e h
    (λ front' n' at' few' some' e'. number_read k n' v front' at' start rest few' some' e' h)

leb128_read : (n : ℕ) → n ≤ 2 ^ 29 + 1 → (at : ℕ) (rest : List ℕ) → (a : ℕ)
    × (symbols (binary_tokens at at [] (leb128 n ++ rest)) ≡ Number n ∷ symbols (binary_tokens a a [] rest))
unfolding leb128
leb128_read n h at rest = number_read 4 n n [] at at rest refl (inl refl) (omega arith) h

codes_read : (c : Clause) → Small c → (at : ℕ) (rest : List ℕ) → (a : ℕ)
    × (symbols (binary_tokens at at [] ((codes_bytes c ++ 0 ∷ []) ++ rest)) ≡ (literal_symbols c ++ Number 0 ∷ []) ++ symbols (binary_tokens a a [] rest))
codes_read [] h at rest = (next at, refl)
codes_read (l ∷ c) h at rest =
    let s = h l (inl refl) in
    let one = leb128_read (l + 2) (omega arith) at ((codes_bytes c ++ 0 ∷ []) ++ rest) in
    let two = codes_read c (λ m k. h m (inr k)) one.0 rest in (
      two.0,
      ap (λ x. symbols (binary_tokens at at [] x)) (ap (λ x. x ++ rest) (append_assoc (leb128 (l + 2)) (codes_bytes c) (0 ∷ [])) ∙
          append_assoc (leb128 (l + 2)) (codes_bytes c ++ 0 ∷ []) rest)
          ∙ one.1 ∙ ap (λ ss. Number (l + 2) ∷ ss) two.1,
    )

binary_line_read : (line : ProofLine) → Small line.clause → (at : ℕ) (rest : List ℕ) → (a : ℕ)
    × (symbols (binary_tokens at at [] (line_bytes line ++ rest)) ≡ line_symbols Binary line ++ symbols (binary_tokens a a [] rest))
binary_line_read line h at rest = by line.kind (codes_read line.clause h (next at) rest)
  where
    by : (kind : LineKind) →
        ((a : ℕ) × (symbols (binary_tokens (next at) (next at) [] ((codes_bytes line.clause ++ 0 ∷ []) ++ rest)) ≡ (literal_symbols line.clause ++ Number
        0 ∷ []) ++ symbols (binary_tokens a a [] rest))) →
        (a : ℕ) × (symbols (binary_tokens at at [] ((letter kind ∷ (codes_bytes line.clause ++ 0 ∷ [])) ++ rest)) ≡ (Number
        (letter kind) ∷ (literal_symbols line.clause ++ Number 0 ∷ [])) ++ symbols (binary_tokens a a [] rest))
    by Adds r = (r.0, ap (λ ss. Number 97 ∷ ss) r.1)
    by Deletes r = (r.0, ap (λ ss. Number 100 ∷ ss) r.1)
    by Accepts r = (r.0, ap (λ ss. Number 105 ∷ ss) r.1)
    by Assumes r = (r.0, ap (λ ss. Number 113 ∷ ss) r.1)
    by Fails r = (r.0, ap (λ ss. Number 102 ∷ ss) r.1)

binary_lines_read : (lines : List ProofLine) → AreInRange lines → (at : ℕ) →
    symbols (binary_tokens at at [] (flat_map line_bytes lines)) ≡ flat_map (line_symbols Binary) lines
binary_lines_read [] h at = refl
binary_lines_read (line ∷ lines) h at =
    let r = binary_line_read line (λ l k. h line l (inl refl) k) at (flat_map line_bytes lines) in
    r.1 ∙ ap (λ ss. line_symbols Binary line ++ ss) (binary_lines_read lines (λ other l m k. h other l (inr m) k) r.0)

pub written_accepted : (f : Encoding) (lines : List ProofLine) (bytes : List ℕ) → HasKinds f lines → AreInRange lines → Written f lines bytes →
    Accepted f lines bytes
written_accepted (Text marked) lines bytes k h e = (k, ap (λ x. symbols (text_tokens marked 0 0 [] x)) e ∙ lines_read marked lines k h 0)
written_accepted Binary lines bytes k h e = (k, ap (λ x. symbols (binary_tokens 0 0 [] x)) e ∙ binary_lines_read lines h 0)
