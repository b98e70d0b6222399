-- What is written is read back.
use Rattle.std.proofs.Common.{◌≡◌, ℕ, zero, suc, ◌+◌, ◌-◌, ◌/◌, ◌%◌, ◌^◌, ◌<◌, ◌≤◌, List, [], ◌∷◌, ◌++◌, Bool, true, false, ◌||◌, ◌==◌, nat_lt, if◌then◌else◌, refl, sym, ap, subst, ◌∙◌, append_assoc, append-nil, Option, Some, None, max, length, get_or, arith, rules, decimal, codes}
use Rattle.std.proofs.lemmas.Fmt.{decimal_by_steps, first_decimal, decimal_nonempty}
use Rattle.std.proofs.lemmas.Bool.{le-ltb}
use Rattle.varisat_theory.specs.promises.Literals.{literal_of}
use Rattle.varisat_formula.specs.declared.dimacs.parser.ParserState.TheVariants.{Start, Comment, Header, Plain}
use Rattle.varisat_formula.specs.declared.dimacs.token.Word.{Word}
use Rattle.varisat_formula.specs.declared.dimacs.token.Meaning.{Meaning}
use Rattle.varisat_formula.specs.declared.dimacs.token.Meaning.TheVariants.{Literal, TooLarge}
use Rattle.varisat_formula.specs.declared.dimacs.header.HeaderPart.{HeaderPart}
use Rattle.varisat_formula.specs.declared.dimacs.header.HeaderPart.TheVariants.{Name}
use Rattle.varisat_formula.specs.declared.dimacs.header.Heading.TheVariants.{Malformed, Oversized, Sized}
use Rattle.varisat_formula.specs.declared.dimacs.error.DimacsErrorKind.TheVariants.{ClauseCount, VarCount}
use Rattle.varisat_formula.specs.declared.dimacs.error.DimacsError.{DimacsError}
use Rattle.varisat_formula.specs.promises.Formulas.{Formula, AllBelow, AreBelow}
use Rattle.varisat_formula.specs.promises.Dimacs.{Token, Reading, nothing, step_by, is_blank, is_line_feed, next, number, in_range, meaning, positive, negative, after_token, after_header, is_one_too_many, read, failed, put, split, nonempty, tokens, header_of, sized, sizes, at_end, Ends}
use Rattle.varisat_formula.specs.inside.Machine.{no_word, after_byte, word_from, after_header_byte, header_from}
use Rattle.varisat_formula.specs.promises.Rest.{Progress, AdvancesBy, begin, word_items, start_place, gives_from}
use Rattle.varisat_literals.specs.promises.Numbers.{variable_limit, literal_text}
use Rattle.varisat_formula.specs.promises.Written.{spaced_literals, clauses_text, formula_text, ReadsBack}
use Rattle.varisat_formula.proofs.TokenBytes.{one_items, join, split_pieces}
use Rattle.varisat_formula.proofs.HeaderLines.{below_test, header_agrees}
use Rattle.varisat_formula.proofs.ParserProgress.{standing, advances_none, advances_more, advances_byte, advances_line_feed, plain_blank, plain_more, header_more, start_more, begin_gives}
use Rattle.varisat_formula.proofs.DecimalDigits.{number_decimal, literal_text_is}
use Rattle.varisat_formula.proofs.TokenRuns.{no_feed}

abbrev pub plain : ℕ → Word → Reading → Progress
plain n w r = standing n (Plain w) r

-- 1. The bytes of a token.
-- no byte is a blank
abbrev pub Solid : List ℕ → Type 0
Solid [] = Unit {0}
Solid (b ∷ bs) = (is_blank b ≡ false) × Solid bs

solid_end : (ds : List ℕ) (b : ℕ) → Solid ds → is_blank b ≡ false → Solid (ds ++ b ∷ [])
solid_end [] b s h = (h, tt)
solid_end (d ∷ ds) b s h = (s.0, solid_end ds b s.1 h)

digit_solid : (k : ℕ) → k < 10 → is_blank (48 + k) ≡ false
digit_solid k h = search (rules, h)

decimal_solid : (n : ℕ) → n < 2 ^ 64 → Solid (decimal n)
decimal_solid n h = decimal_by_steps (λ k ds. Solid ds) (λ k l. (digit_solid k l, tt))
    (λ k ds l s. solid_end ds (48 + k % 10) s (digit_solid (k % 10) (omega arith))) n h

or_last : (x y z w : Bool) → (x || y || z || w) ≡ false → w ≡ false
or_last true y z w h = absurd cc
or_last false true z w h = absurd cc
or_last false false true w h = absurd cc
or_last false false false w h = h

solid_advances : (n : ℕ) (w : Word) (bs : List ℕ) (r : Reading) → Solid bs → AdvancesBy (plain n w r) bs (plain n (word_from w bs) r)
solid_advances n w [] r s = advances_none (plain n w r)
solid_advances n w (b ∷ bs) r s =
    advances_more (plain n w r) (plain n (after_byte w b) r) (plain n (word_from w (b ∷ bs)) r) (b ∷ []) bs
    (advances_byte n (Plain w) r b [] (Plain (after_byte w b)) (plain_more n w b s.0) (no_feed b s.0)) (solid_advances n (after_byte w b) bs r s.1)

-- a token and a space
token_advances : (n : ℕ) (bs : List ℕ) (r : Reading) → Solid bs →
    AdvancesBy (plain n no_word r) (bs ++ 32 ∷ []) (plain n no_word (read r (word_items n (word_from no_word bs))))
token_advances n bs r s =
    advances_more (plain n no_word r) (plain n (word_from no_word bs) r) (plain n no_word (read r (word_items n (word_from no_word bs)))) bs (32 ∷ [])
    (solid_advances n no_word bs r s)
    (advances_byte n (Plain (word_from no_word bs)) r 32 (word_items n (word_from no_word bs)) (Plain no_word)
    (plain_blank n (word_from no_word bs) 32 refl) refl)

-- 2. Literals.
meaning_plain : (ds : List ℕ) → 48 < get_or ds 0 0 → meaning ds ≡ positive (number ds)
meaning_plain [] h = absurd (omega arith)
meaning_plain (b ∷ bs) h = let f : (b == 45) ≡ false = search (rules, h) in ap (λ t. if t then negative (number bs) else positive (number (b ∷ bs))) f

meaning_of_decimal : (n : ℕ) → 0 < n → n < 2 ^ 64 → meaning (decimal n) ≡ in_range true n
meaning_of_decimal zero p h = absurd (omega arith)
meaning_of_decimal (suc n) p h = meaning_plain (decimal (suc n)) (first_decimal (suc n) p h) ∙ ap positive (number_decimal (suc n) h)

meaning_of_negative : (n : ℕ) → 0 < n → n < 2 ^ 64 → meaning (45 ∷ decimal n) ≡ in_range false n
meaning_of_negative zero p h = absurd (omega arith)
meaning_of_negative (suc n) p h = ap negative (number_decimal (suc n) h)

ranged : (s : Bool) (n l : ℕ) → n ≤ variable_limit → literal_of (n - 1) s ≡ l → in_range s n ≡ Literal l
ranged s n l h e = ap (λ t. if t then TooLarge else Literal (literal_of (n - 1) s)) (le-ltb variable_limit n h) ∙ ap Literal e

-- the reading of a formula that is being read
abbrev pub at : ℕ → ℕ → List (List ℕ) → List ℕ → ℕ → Reading
at vars total done begun k = record {
  clauses = done;
  begun = begun;
  count = k;
  header = Some (record { vars = vars; clauses = total });
  highest =
      vars;
  fault = None;
}

not_full : (begun : List ℕ) (vars total k : ℕ) → k < total → is_one_too_many (Some (record { vars = vars; clauses = total })) begun k ≡ false
not_full [] vars total k h = search (rules, h)
not_full (b ∷ bs) vars total k h = refl

after_literal : (vars total : ℕ) (done : List (List ℕ)) (begun : List ℕ) (k n l : ℕ) → k < total → l / 2 < vars →
    after_token (at vars total done begun k) n (Literal l) ≡ at vars total done (begun ++ l ∷ []) k
after_literal vars total done begun k n l f g =
    let top : max vars (l / 2 + 1) ≡ vars = omega arith in
    let small : l / 2 + 1 ≤ vars = omega arith in
    let r : Reading = at vars total done begun k in
    let s : ℕ → Reading = λ x. record {
      clauses = done;
      begun = begun ++ l ∷ [];
      count = k;
      header =
          Some (record { vars = vars; clauses = total });
      highest = x;
      fault = None;
    } in
    ap (λ t. if t then failed r n ClauseCount else (if nat_lt vars (l / 2 + 1) then failed r n VarCount else s (max vars (l / 2 + 1))))
    (not_full begun vars total k f)
    ∙ ap (λ t. if t then failed r n VarCount else s (max vars (l / 2 + 1))) (le-ltb vars (l / 2 + 1) small)
    ∙ ap s top

is_zero : (m : ℕ) → (m == 0) ≡ true → m ≡ 0
is_zero m e = search (rules, e)

is_one : (m : ℕ) → m < 2 → (m == 0) ≡ false → m ≡ 1
is_one zero h e = absurd cc
is_one (suc m) h e = omega arith

pub record Spells (text : List ℕ) (l : ℕ) : Type 0 where
  pub solid : Solid text
  pub says : meaning text ≡ Literal l
  pub some : 0 < length text

pub literal_case : (t : Bool) (l : ℕ) → l / 2 < variable_limit → (l % 2 == 0) ≡ t → Spells (if t then decimal (l / 2 + 1) else 45 ∷ decimal (l / 2 + 1)) l
literal_case true l h e =
    let z = is_zero (l % 2) e in
    let p : l / 2 + 1 < 2 ^ 64 = omega arith in
    let q : 0 < l / 2 + 1 = omega arith in
    let c : l / 2 + 1 ≤ variable_limit = omega arith in
    record {
      solid = decimal_solid (l / 2 + 1) p;
      says = meaning_of_decimal (l / 2 + 1) q p ∙ ranged true (l / 2 + 1) l c (omega arith);
      some = decimal_nonempty (l / 2 + 1) p;
    }
literal_case false l h e =
    let m : l % 2 < 2 = omega arith in
    let z = is_one (l % 2) m e in
    let p : l / 2 + 1 < 2 ^ 64 = omega arith in
    let q : 0 < l / 2 + 1 = omega arith in
    let c : l / 2 + 1 ≤ variable_limit = omega arith in
    record {
      solid = (refl, decimal_solid (l / 2 + 1) p);
      says = meaning_of_negative (l / 2 + 1) q p ∙ ranged false (l / 2 + 1) l c (omega arith);
      some = omega arith;
    }

token_read : (r : Reading) (n : ℕ) (text : List ℕ) → r.fault ≡ None → 0 < length text →
    read r (word_items n (word_from no_word text)) ≡ after_token r n (meaning text)
token_read r n [] h l = absurd (omega arith)
token_read r n (b ∷ bs) h l = sym (ap (λ xs. read r xs) (one_items n (b ∷ bs))) ∙ ap (λ f. step_with f r n (meaning (b ∷ bs))) h
  where
    step_with : Option DimacsError → Reading → ℕ → Meaning → Reading
    step_with f r n m = step_by f r (Token n m)

literal_advances : (vars total : ℕ) (done : List (List ℕ)) (begun : List ℕ) (k n l : ℕ) → vars ≤ variable_limit → k < total → l / 2 < vars →
    AdvancesBy (plain n no_word (at vars total done begun k)) (literal_text l ++ 32 ∷ []) (plain n no_word (at vars total done (begun ++ l ∷ []) k))
literal_advances vars total done begun k n l h f g =
    let small : l / 2 < variable_limit = omega arith in
    let c : Spells (literal_text l) l = subst (λ t. Spells t l) (sym (literal_text_is l)) (literal_case (l % 2 == 0) l small refl) in
    subst (λ r. AdvancesBy (plain n no_word (at vars total done begun k)) (literal_text l ++ 32 ∷ []) (plain n no_word r))
    (token_read (at vars total done begun k) n (literal_text l) refl c.some
    ∙ ap (λ m. after_token (at vars total done begun k) n m) c.says
    ∙ after_literal vars total done begun k n l f g)
    (token_advances n (literal_text l) (at vars total done begun k) c.solid)

literals_advance : (vars total : ℕ) (done : List (List ℕ)) (begun : List ℕ) (k n : ℕ) (ls : List ℕ) → vars ≤ variable_limit → k < total → AllBelow vars ls →
    AdvancesBy (plain n no_word (at vars total done begun k)) (spaced_literals ls) (plain n no_word (at vars total done (begun ++ ls) k))
literals_advance vars total done begun k n [] h f b =
    subst (λ x. AdvancesBy (plain n no_word (at vars total done begun k)) [] (plain n no_word (at vars total done x k))) (sym (append-nil begun))
    (advances_none (plain n no_word (at vars total done begun k)))
literals_advance vars total done begun k n (l ∷ ls) h f b =
    subst (λ x. AdvancesBy (plain n no_word (at vars total done begun k)) (spaced_literals (l ∷ ls)) (plain n no_word (at vars total done x k)))
    (append_assoc begun (l ∷ []) ls)
    (subst (λ t. AdvancesBy (plain n no_word (at vars total done begun k)) t (plain n no_word (at vars total done ((begun ++ l ∷ []) ++ ls) k)))
    (append_assoc (literal_text l) (32 ∷ []) (spaced_literals ls))
    (advances_more (plain n no_word (at vars total done begun k)) (plain n no_word (at vars total done (begun ++ l ∷ []) k))
    (plain n no_word (at vars total done ((begun ++ l ∷ []) ++ ls) k))
    (literal_text l ++ 32 ∷ []) (spaced_literals ls)
    (literal_advances vars total done begun k n l h f b.0) (literals_advance vars total done (begun ++ l ∷ []) k n ls h f b.1)))

-- 3. Clauses.
-- the `0` and the line feed
zero_advances : (vars total : ℕ) (done : List (List ℕ)) (begun : List ℕ) (k n : ℕ) → k < total → total < 2 ^ 64 →
    AdvancesBy (plain n no_word (at vars total done begun k)) (48 ∷ 10 ∷ []) (standing (next n) Start (at vars total (done ++ begun ∷ []) [] (suc k)))
zero_advances vars total done begun k n h f =
    let r : Reading = at vars total done begun k in
    let e : next k ≡ suc k = omega arith in
    subst (λ x. AdvancesBy (plain n no_word r) (48 ∷ 10 ∷ []) (standing (next n) Start x))
    (ap (λ t. if t then failed r n ClauseCount else at vars total (done ++ begun ∷ []) [] (next k)) (not_full begun vars total k h)
    ∙ ap (λ x. at vars total (done ++ begun ∷ []) [] x) e)
    (advances_more (plain n no_word r) (plain n (word_from no_word (48 ∷ [])) r) _ (48 ∷ []) (10 ∷ [])
    (solid_advances n no_word (48 ∷ []) r (refl, tt)) (advances_line_feed n (Plain (word_from no_word (48 ∷ []))) r))

-- a line that begins with a digit or a minus sign
abbrev pub Fine : List ℕ → Type 0
Fine [] = ⊥
Fine (b ∷ bs) = (is_blank b ≡ false) × ((b == 99) ≡ false) × ((b == 112) ≡ false)

start_is : (b : ℕ) → (is_blank b ≡ false) × ((b == 99) ≡ false) × ((b == 112) ≡ false) → start_place b ≡ Plain (after_byte no_word b)
start_is b h =
    ap (λ t. if t then Comment else (if b == 112 then Header Name else (if is_blank b then Plain no_word else Plain (after_byte no_word b)))) h.1
    ∙ ap (λ t. if t then Header Name else (if is_blank b then Plain no_word else Plain (after_byte no_word b))) h.2
    ∙ ap (λ t. if t then Plain no_word else Plain (after_byte no_word b)) h.0

from_start : (n : ℕ) (w : List ℕ) (r : Reading) (q : Progress) → Fine w → AdvancesBy (plain n no_word r) w q → AdvancesBy (standing n Start r) w q
from_start n [] r q h f = absurd h
from_start n (b ∷ w) r q h f =
    let feed = no_feed b h.0 in
    let here = advances_byte n Start r b [] (start_place b) (start_more n b) feed in
    let there = advances_byte n (Plain no_word) r b [] (Plain (after_byte no_word b)) (plain_more n no_word b h.0) feed in
    record {
      same = λ ending rest.
          f.same ending rest ∙ sym (there.same ending (w ++ rest)) ∙ sym (ap (λ x. gives_from ending (standing n x r) (w ++ rest)) (start_is b h))
          ∙ here.same ending (w ++ rest);
    }

fine_more : (w rest : List ℕ) → Fine w → Fine (w ++ rest)
fine_more [] rest h = absurd h
fine_more (b ∷ w) rest h = h

fine_digit : (k : ℕ) → k < 10 → Fine ((48 + k) ∷ [])
fine_digit k h = (search (rules, h), search (rules, h), search (rules, h))

fine_decimal : (n : ℕ) → n < 2 ^ 64 → Fine (decimal n)
fine_decimal n h = decimal_by_steps (λ k ds. Fine ds) (λ k l. fine_digit k l) (λ k ds l s. fine_more ds ((48 + k % 10) ∷ []) s) n h

fine_literal : (t : Bool) (n : ℕ) → n < 2 ^ 64 → Fine (if t then decimal n else 45 ∷ decimal n)
fine_literal true n h = fine_decimal n h
fine_literal false n h = (refl, refl, refl)

fine_clause : (vars : ℕ) (c rest : List ℕ) → vars ≤ variable_limit → AllBelow vars c → Fine (spaced_literals c ++ 48 ∷ rest)
fine_clause vars [] rest h b = (refl, refl, refl)
fine_clause vars (l ∷ ls) rest h b =
    let f = b.0 in
    let p : l / 2 + 1 < 2 ^ 64 = omega (arith, f) in
    fine_more (literal_text l ++ 32 ∷ spaced_literals ls) (48 ∷ rest)
    (fine_more (literal_text l) (32 ∷ spaced_literals ls) (subst (λ t. Fine t) (sym (literal_text_is l)) (fine_literal (l % 2 == 0) (l / 2 + 1) p)))

clause_advances : (vars total : ℕ) (done : List (List ℕ)) (k n : ℕ) (c : List ℕ) → vars ≤ variable_limit → k < total → total < 2 ^ 64 → AllBelow vars c →
    AdvancesBy (standing n Start (at vars total done [] k)) (spaced_literals c ++ 48 ∷ 10 ∷ [])
    (standing (next n) Start (at vars total (done ++ c ∷ []) [] (suc k)))
clause_advances vars total done k n c h f g b =
    from_start n (spaced_literals c ++ 48 ∷ 10 ∷ []) (at vars total done [] k) _ (fine_clause vars c (10 ∷ []) h b)
    (advances_more (plain n no_word (at vars total done [] k)) (plain n no_word (at vars total done c k)) _ (spaced_literals c) (48 ∷ 10 ∷ [])
    (literals_advance vars total done [] k n c h f b) (zero_advances vars total done c k n f g))

clauses_advance : (vars total : ℕ) (done : List (List ℕ)) (k n : ℕ) (cs : List (List ℕ)) → vars ≤ variable_limit → k + length cs ≡ total →
    total < 2 ^ 64 → AreBelow vars cs →
    (m : ℕ) × AdvancesBy (standing n Start (at vars total done [] k)) (clauses_text cs) (standing m Start (at vars total (done ++ cs) [] total))
clauses_advance vars total done k n [] h e f b =
    let p : Progress = standing n Start (at vars total done [] k) in
    let g : k ≡ total = omega arith in (
      n,
      subst (λ x. AdvancesBy p [] (standing n Start (at vars total x [] total))) (sym (append-nil done))
          (subst (λ x. AdvancesBy p [] (standing n Start (at vars total done [] x))) g (advances_none p)),
    )
clauses_advance vars total done k n (c ∷ cs) h e f b =
    let p : Progress = standing n Start (at vars total done [] k) in
    let g : k < total = omega arith in
    let g2 : suc k + length cs ≡ total = omega arith in
    let later = clauses_advance vars total (done ++ c ∷ []) (suc k) (next n) cs h g2 f b.1 in (
      later.0,
      subst (λ x. AdvancesBy p (clauses_text (c ∷ cs)) (standing later.0 Start (at vars total x [] total))) (append_assoc done (c ∷ []) cs)
          (subst (λ t. AdvancesBy p t (standing later.0 Start (at vars total ((done ++ c ∷ []) ++ cs) [] total)))
          (append_assoc (spaced_literals c) (48 ∷ 10 ∷ []) (clauses_text cs))
          (advances_more p _ _ (spaced_literals c ++ 48 ∷ 10 ∷ []) (clauses_text cs) (clause_advances vars total done k n c h g f b.0) later.1)),
    )

-- 4. The header.
abbrev pub NoFeed : List ℕ → Type 0
NoFeed [] = Unit {0}
NoFeed (b ∷ bs) = (is_line_feed b ≡ false) × NoFeed bs

no_feed_append : (w x : List ℕ) → Solid w → NoFeed x → NoFeed (w ++ x)
no_feed_append [] x s h = h
no_feed_append (b ∷ w) x s h = (no_feed b s.0, no_feed_append w x s.1 h)

no_feeds : (w : List ℕ) → Solid w → NoFeed w
no_feeds [] s = tt
no_feeds (b ∷ w) s = (no_feed b s.0, no_feeds w s.1)

header_bytes : (n : ℕ) (h : HeaderPart) (bs : List ℕ) (r : Reading) → NoFeed bs →
    AdvancesBy (standing n (Header h) r) bs (standing n (Header (header_from h bs)) r)
header_bytes n h [] r s = advances_none (standing n (Header h) r)
header_bytes n h (b ∷ bs) r s =
    advances_more (standing n (Header h) r) (standing n (Header (after_header_byte h b)) r) _ (b ∷ []) bs
    (advances_byte n (Header h) r b [] (Header (after_header_byte h b)) (header_more n h b) s.0) (header_bytes n (after_header_byte h b) bs r s.1)

put_join : (b : ℕ) (w : List ℕ) (ps : List (List ℕ)) (first : List ℕ) (rest : List (List ℕ)) → ps ≡ first ∷ rest → put false b (join w ps) ≡ join (b ∷ w) ps
put_join b w ps first rest e = ap (λ x. put false b (join w x)) e ∙ sym (ap (λ x. join (b ∷ w) x) e)

join_none : (ps : List (List ℕ)) → ps ≡ join [] ps
join_none [] = refl
join_none (x ∷ ps) = refl

split_solid : (w rest : List ℕ) → Solid w → split is_blank (w ++ rest) ≡ join w (split is_blank rest)
split_solid [] rest s = join_none (split is_blank rest)
split_solid (b ∷ w) rest s =
    let p = split_pieces is_blank rest in
    ap (λ t. put t b (split is_blank (w ++ rest))) s.0 ∙ ap (λ ps. put false b ps) (split_solid w rest s.1)
    ∙ put_join b w (split is_blank rest) p.first p.rest p.are

tokens_word : (w rest : List ℕ) → Fine w → Solid w → tokens true (w ++ 32 ∷ rest) ≡ w ∷ tokens true rest
tokens_word [] rest f s = absurd f
tokens_word (b ∷ w) rest f s = ap nonempty (split_solid (b ∷ w) (32 ∷ rest) s) ∙ ap (λ x. nonempty (x ∷ split is_blank rest)) (append-nil (b ∷ w))

tokens_last : (w : List ℕ) → Fine w → Solid w → tokens true w ≡ w ∷ []
tokens_last [] f s = absurd f
tokens_last (b ∷ w) f s = ap (λ x. tokens true x) (sym (append-nil (b ∷ w))) ∙ ap nonempty (split_solid (b ∷ w) [] s)
    ∙ ap (λ x. nonempty (x ∷ [])) (append-nil (b ∷ w))

abbrev pub header_line : ℕ → ℕ → List ℕ
header_line vars total = codes "p cnf " ++ decimal vars ++ 32 ∷ decimal total

header_is : (vars total : ℕ) → vars ≤ variable_limit → total < 2 ^ 64 →
    header_of (tokens true (header_line vars total)) ≡ Sized (record { vars = vars; clauses = total })
header_is vars total h f =
    let v : vars < 2 ^ 64 = omega arith in
    ap (λ ts. header_of (codes "p" ∷ codes "cnf" ∷ ts))
    (tokens_word (decimal vars) (decimal total) (fine_decimal vars v) (decimal_solid vars v)
    ∙ ap (λ ts. decimal vars ∷ ts) (tokens_last (decimal total) (fine_decimal total f) (decimal_solid total f)))
    ∙ ap (λ o. sizes o (number (decimal total))) (number_decimal vars v) ∙ ap (λ o. sizes (Some vars) o) (number_decimal total f)
    ∙ ap (λ t. if t then sized vars total else Malformed) (below_test total f)
    ∙ ap (λ t. if t then Oversized else Sized (record { vars = vars; clauses = total })) (le-ltb variable_limit vars h)

header_advances : (vars total : ℕ) → vars ≤ variable_limit → total < 2 ^ 64 →
    AdvancesBy begin (header_line vars total ++ 10 ∷ []) (standing 2 Start (at vars total [] [] 0))
header_advances vars total h f =
    let v : vars < 2 ^ 64 = omega arith in
    let m : max 0 vars ≡ vars = omega arith in
    let line : List ℕ = codes " cnf " ++ (decimal vars ++ 32 ∷ decimal total) in
    let quiet : NoFeed (decimal vars ++ 32 ∷ decimal total) = no_feed_append (decimal vars) (32 ∷ decimal total) (decimal_solid vars v)
    (refl, no_feeds (decimal total) (decimal_solid total f)) in
    let first : AdvancesBy begin (112 ∷ []) (standing 1 (Header Name) nothing) = advances_byte 1 Start nothing 112 [] (Header Name) (start_more 1 112) refl in
    let bytes = header_bytes 1 Name line nothing (refl, (refl, (refl, (refl, (refl, quiet))))) in
    let feed = advances_line_feed 1 (Header (header_from Name line)) nothing in
    subst (λ x. AdvancesBy begin (header_line vars total ++ 10 ∷ []) (standing 2 Start x))
    (ap (λ o. after_header nothing 1 o) (sym (header_agrees line) ∙ header_is vars total h f)
    ∙ ap (λ x. record { clauses = []; begun = []; count = 0; header = Some (record { vars = vars; clauses = total }); highest = x; fault = None }) m)
    (advances_more begin _ _ (112 ∷ []) (line ++ 10 ∷ []) first (advances_more _ _ _ line (10 ∷ []) bytes feed))

end_is : (vars total m : ℕ) (cs : List (List ℕ)) → at_end (at vars total cs [] total) m ≡ at vars total cs [] total
end_is vars total m cs = ap (λ t. if t then failed (at vars total cs [] total) m ClauseCount else at vars total cs [] total)
    (le-ltb total total (omega arith))

pub reads_back : (f : Formula) → f.var_count ≤ variable_limit → length f.clauses < 2 ^ 64 → AreBelow f.var_count f.clauses → ReadsBack f
reads_back f h k b =
    let vars : ℕ = f.var_count in
    let cs : List (List ℕ) = f.clauses in
    let all = clauses_advance vars (length cs) [] 0 2 cs h (omega arith) k b in
    let text : List ℕ = formula_text f in
    let q : Progress = standing all.0 Start (at vars (length cs) cs [] (length cs)) in
    let g : AdvancesBy begin text q = advances_more begin _ q (header_line vars (length cs) ++ 10 ∷ []) (clauses_text cs)
    (header_advances vars (length cs) h k) all.1 in
    sym (begin_gives Ends text) ∙ ap (λ t. gives_from Ends begin t) (sym (append-nil text)) ∙ sym (g.same Ends []) ∙ end_is vars (length cs) all.0 cs
