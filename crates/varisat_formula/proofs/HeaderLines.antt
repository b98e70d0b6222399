-- Header lines, a byte at a time.
use Rattle.std.proofs.Common.{◌≡◌, ℕ, zero, suc, ◌+◌, ◌-◌, ◌*◌, ◌^◌, ◌<◌, ◌≤◌, List, [], ◌∷◌, ◌++◌, Bool, true, false, ◌&&◌, ◌==◌, nat_lt, if◌then◌else◌, refl, sym, ap, ◌∙◌, append_assoc, Option, Some, None, option_map, min, arith, rules, codes, bytes_eq}
use Rattle.std.proofs.lemmas.Slice.Eq.{bytes_eq-Decides}
use Rattle.std.proofs.lemmas.Bool.{eqb-true}
use Rattle.varisat_literals.specs.promises.Numbers.{variable_limit}
use Rattle.varisat_formula.specs.declared.dimacs.token.Digits.{Digits}
use Rattle.varisat_formula.specs.declared.dimacs.token.Digits.TheVariants.{Empty, Number, Large, NoNumber}
use Rattle.varisat_formula.specs.declared.dimacs.header.Heading.{Heading}
use Rattle.varisat_formula.specs.declared.dimacs.header.Heading.TheVariants.{Malformed, Oversized, Sized}
use Rattle.varisat_formula.specs.declared.dimacs.header.HeaderPart.{HeaderPart}
use Rattle.varisat_formula.specs.declared.dimacs.header.HeaderPart.TheVariants.{Name, Gap, C, Cn, Cnf, Vars, Clauses, Last, Bad}
use Rattle.varisat_formula.specs.promises.Dimacs.{is_blank, is_digit, tokens, number, sized, sizes, header_of}
use Rattle.varisat_formula.specs.inside.Machine.{after_digit, grown, digits_from, says, is_empty, header_from, header_says, header_blank, header_more, vars_ended, clauses_ended, clauses_says}
use Rattle.varisat_formula.proofs.TokenBytes.{capped, number_agrees, one_token, tokens_behind, tokens_end, tokens_blank, tokens_more, tokens_all, not_empty, digits_not_empty}

-- the tokens of the rest of a line, the first of which goes on
abbrev pub words : List ℕ → List ℕ → List (List ℕ)
words w line = tokens_behind true w line

-- by the next byte: at the end, behind a blank, behind another byte
by_byte : {P : Type 0} (t : Bool) → (t ≡ true → P) → (t ≡ false → P) → P
by_byte true f g = f refl
by_byte false f g = g refl

blank_state : (h : HeaderPart) (b : ℕ) (bs : List ℕ) → is_blank b ≡ true → header_from h (b ∷ bs) ≡ header_from (header_blank h) bs
blank_state h b bs e = ap (λ t. header_from (if t then header_blank h else header_more h b) bs) e

more_state : (h : HeaderPart) (b : ℕ) (bs : List ℕ) → is_blank b ≡ false → header_from h (b ∷ bs) ≡ header_from (header_more h b) bs
more_state h b bs e = ap (λ t. header_from (if t then header_blank h else header_more h b) bs) e

-- a token that was begun stands in front
pub record Begun (w : List ℕ) (ts : List (List ℕ)) : Type 0 where
  pub more : List ℕ
  pub rest : List (List ℕ)
  pub are : ts ≡ (w ++ more) ∷ rest

begun : (b : ℕ) (w bs : List ℕ) → Begun (b ∷ w) (words (b ∷ w) bs)
begun b w [] = record { more = []; rest = []; are = tokens_end (b ∷ w) ∙ ap (λ x. (b ∷ x) ∷ []) (sym (nothing_more w)) }
  where
    nothing_more : (w : List ℕ) → w ++ [] ≡ w
    nothing_more [] = refl
    nothing_more (x ∷ w) = ap (λ y. x ∷ y) (nothing_more w)
begun b w (c ∷ bs) = by_byte (is_blank c)
    (λ e. record { more = []; rest = words [] bs; are = tokens_blank true (b ∷ w) c bs e ∙ ap (λ x. (b ∷ x) ∷ words [] bs) (sym (nothing_more w)) })
    (λ e. let r = begun b (w ++ c ∷ []) bs in
    record {
      more = c ∷ r.more;
      rest = r.rest;
      are = tokens_more true (b ∷ w) c bs e ∙ r.are
          ∙ ap (λ x. (b ∷ x) ∷ r.rest) (append_assoc w (c ∷ []) r.more);
    })
  where
    nothing_more : (w : List ℕ) → w ++ [] ≡ w
    nothing_more [] = refl
    nothing_more (x ∷ w) = ap (λ y. x ∷ y) (nothing_more w)

bad_stays : (bs : List ℕ) → header_says (header_from Bad bs) ≡ Malformed
bad_stays [] = refl
bad_stays (b ∷ bs) = by_byte (is_blank b) (λ e. ap header_says (blank_state Bad b bs e) ∙ bad_stays bs)
    (λ e. ap header_says (more_state Bad b bs e) ∙ bad_stays bs)

-- 1. Behind the counts nothing more may come.
abbrev pub alone : Heading → List (List ℕ) → Heading
alone h [] = h
alone h (t ∷ ts) = Malformed

alone_begun : (h : Heading) (b : ℕ) (bs : List ℕ) → alone h (words (b ∷ []) bs) ≡ Malformed
alone_begun h b bs = ap (alone h) (begun b [] bs).are

behind_last : (v c : ℕ) (bs : List ℕ) → alone (sized v c) (words [] bs) ≡ header_says (header_from (Last v c) bs)
behind_last v c [] = refl
behind_last v c (b ∷ bs) = by_byte (is_blank b)
    (λ e. ap (alone (sized v c)) (tokens_blank true [] b bs e) ∙ behind_last v c bs ∙ sym (ap header_says (blank_state (Last v c) b bs e)))
    (λ e. ap (alone (sized v c)) (tokens_more true [] b bs e) ∙ alone_begun (sized v c) b bs ∙ sym (bad_stays bs)
    ∙ sym (ap header_says (more_state (Last v c) b bs e)))

behind_bad : (ts : List (List ℕ)) (bs : List ℕ) → alone Malformed ts ≡ header_says (header_from Bad bs)
behind_bad [] bs = sym (bad_stays bs)
behind_bad (t ∷ ts) bs = sym (bad_stays bs)

-- 2. The counts.
abbrev pub p_word : List ℕ
p_word = codes "p"

abbrev pub cnf_word : List ℕ
cnf_word = codes "cnf"

-- the header of these tokens behind `p` and `cnf`
with_rest : (v c : List ℕ) (ts : List (List ℕ)) → header_of (p_word ∷ cnf_word ∷ v ∷ c ∷ ts) ≡ alone (sizes (number v) (number c)) ts
with_rest v c [] = refl
with_rest v c (t ∷ ts) = refl

-- numbers in the range of the code
abbrev pub IsShort : Digits → Type 0
IsShort Empty = Unit {0}
IsShort (Number n) = n < 2 ^ 64
IsShort Large = Unit {0}
IsShort NoNumber = Unit {0}

short_if : (t : Bool) (d : Digits) → (t ≡ true → IsShort d) → IsShort (if t then d else NoNumber)
short_if true d f = f refl
short_if false d f = tt

short_grown : (n m : ℕ) → IsShort (grown n m)
short_grown zero m = tt
short_grown (suc n) m = go (nat_lt (10 * suc n + m) (2 ^ 64)) refl
  where
    go : (t : Bool) → nat_lt (10 * suc n + m) (2 ^ 64) ≡ t → IsShort (if t then Number (10 * suc n + m) else Large)
    go true e = search (rules, e)
    go false e = tt

short_after : (d : Digits) (b : ℕ) → IsShort (after_digit d b)
short_after Empty b = short_if (is_digit b) (Number (b - 48)) (λ e. digit b e)
  where
    digit : (b : ℕ) → is_digit b ≡ true → b - 48 < 2 ^ 64
    digit b e = let h : (48 ≤ b) × (b ≤ 57) = search (rules, e) in let k = h.1 in omega arith
short_after (Number n) b = short_if (is_digit b) (grown n (b - 48)) (λ e. short_grown n (b - 48))
short_after Large b = short_if (is_digit b) Large (λ e. tt)
short_after NoNumber b = tt

short_from : (d : Digits) (bs : List ℕ) → IsShort d → IsShort (digits_from d bs)
short_from d [] h = h
short_from d (b ∷ bs) h = short_from (after_digit d b) bs (short_after d b)

digits_from-append : (d : Digits) (xs ys : List ℕ) → digits_from d (xs ++ ys) ≡ digits_from (digits_from d xs) ys
digits_from-append d [] ys = refl
digits_from-append d (x ∷ xs) ys = digits_from-append (after_digit d x) xs ys

-- what the kept digits say of the number
from_empty : (o : Option ℕ) → option_map capped o ≡ None → o ≡ None
from_empty None e = refl
from_empty (Some n) e = absurd cc

pub record Exact (o : Option ℕ) (n : ℕ) : Type 0 where
  pub v : ℕ
  pub is : o ≡ Some v
  pub kept : n ≡ capped v

exact : (o : Option ℕ) (n : ℕ) → option_map capped o ≡ Some n → Exact o n
exact None n e = absurd cc
exact (Some v) n e = record { v = v; is = refl; kept = cc }

sized_kept : (v w c : ℕ) → w ≡ min v (2 ^ 64 - 1) → sized v c ≡ sized w c
sized_kept v w c e = go (nat_lt variable_limit v) refl
  where
    go : (t : Bool) → nat_lt variable_limit v ≡ t → sized v c ≡ sized w c
    go true f =
        let h : variable_limit < v = search (rules, f) in
        let k : variable_limit < w = omega arith in
        let g : nat_lt variable_limit w ≡ true = search (rules, k) in
        ap (λ t. if t then Oversized else Sized (record { vars = v; clauses = c })) f
        ∙ sym (ap (λ t. if t then Oversized else Sized (record { vars = w; clauses = c })) g)
    go false f =
        let h : v ≤ variable_limit = search (rules, f) in
        let k : v ≡ w = omega arith in
        ap (λ x. sized x c) k

pub below_test : (c : ℕ) → c < 2 ^ 64 → nat_lt c (2 ^ 64) ≡ true
below_test c h = search (rules, h)

above_test : (c : ℕ) → 2 ^ 64 ≤ c → nat_lt c (2 ^ 64) ≡ false
above_test c h = search (rules, h)

-- a header whose clause count ended with these digits
counted : (v w : ℕ) (o : Option ℕ) (d : Digits) → w ≡ min v (2 ^ 64 - 1) → IsShort d → option_map capped o ≡ says d → sizes (Some v) o ≡ clauses_says w d
counted v w o Empty e s f = ap (sizes (Some v)) (from_empty o f)
counted v w o (Number c) e s f =
    let x = exact o c f in
    let k = x.kept in
    let y : x.v ≡ c = omega arith in
    ap (sizes (Some v)) (x.is ∙ ap Some y) ∙ ap (λ t. if t then sized v c else Malformed) (below_test c s) ∙ sized_kept v w c e
counted v w o Large e s f =
    let x = exact o (2 ^ 64) f in
    let k = x.kept in
    let y : 2 ^ 64 ≤ x.v = omega arith in
    ap (sizes (Some v)) x.is ∙ ap (λ t. if t then sized v x.v else Malformed) (above_test x.v y)
counted v w o NoNumber e s f = ap (sizes (Some v)) (from_empty o f)

-- with the clause count begun
clauses_step : (v w : ℕ) (c : List ℕ) (vs : List ℕ) (d : Digits) (bs : List ℕ) → number vs ≡ Some v → w ≡ min v (2 ^ 64 - 1) → IsShort d →
    option_map capped (number c) ≡ says d → (d ≡ Empty → ⊥) →
    header_of (p_word ∷ cnf_word ∷ vs ∷ c ∷ words [] bs) ≡ header_says (header_from (clauses_ended w d) bs)
clauses_step v w c vs Empty bs n e s f g = absurd (g refl)
clauses_step v w c vs (Number m) bs n e s f g =
    with_rest vs c (words [] bs) ∙ ap (λ o. alone (sizes o (number c)) (words [] bs)) n
    ∙ ap (λ h. alone h (words [] bs)) (counted v w (number c) (Number m) e s f) ∙ behind_last w m bs
clauses_step v w c vs Large bs n e s f g =
    with_rest vs c (words [] bs) ∙ ap (λ o. alone (sizes o (number c)) (words [] bs)) n
    ∙ ap (λ h. alone h (words [] bs)) (counted v w (number c) Large e s f) ∙ behind_bad (words [] bs) bs
clauses_step v w c vs NoNumber bs n e s f g =
    with_rest vs c (words [] bs) ∙ ap (λ o. alone (sizes o (number c)) (words [] bs)) n
    ∙ ap (λ h. alone h (words [] bs)) (counted v w (number c) NoNumber e s f) ∙ behind_bad (words [] bs) bs

not_begun : (d : Digits) → is_empty d ≡ false → d ≡ Empty → ⊥
not_begun d e f = no (sym e ∙ ap is_empty f)
  where
    no : false ≡ true → ⊥
    no e = cc

digits_begun : (x : ℕ) (xs : List ℕ) → digits_from Empty (x ∷ xs) ≡ Empty → ⊥
digits_begun x xs = not_begun (digits_from Empty (x ∷ xs)) (digits_not_empty (after_digit Empty x) xs (not_empty Empty x))

clauses_blank : (v w : ℕ) (vs c bs : List ℕ) → number vs ≡ Some v → w ≡ min v (2 ^ 64 - 1) →
    header_of (p_word ∷ cnf_word ∷ vs ∷ words [] bs) ≡ header_says (header_from (Clauses w Empty) bs) →
    header_of (p_word ∷ cnf_word ∷ vs ∷ one_token c ++ words [] bs) ≡ header_says (header_from (header_blank (Clauses w (digits_from Empty c))) bs)
clauses_blank v w vs [] bs n e h = h
clauses_blank v w vs (x ∷ xs) bs n e h =
    clauses_step v w (x ∷ xs) vs (digits_from Empty (x ∷ xs)) bs n e (short_from Empty (x ∷ xs) tt) (number_agrees (x ∷ xs)) (digits_begun x xs)

clauses_end : (v w : ℕ) (vs c : List ℕ) → number vs ≡ Some v → w ≡ min v (2 ^ 64 - 1) →
    header_of (p_word ∷ cnf_word ∷ vs ∷ one_token c) ≡ clauses_says w (digits_from Empty c)
clauses_end v w vs [] n e = refl
clauses_end v w vs (x ∷ xs) n e =
    ap (λ o. sizes o (number (x ∷ xs))) n ∙ counted v w (number (x ∷ xs)) (digits_from Empty (x ∷ xs)) e (short_from Empty (x ∷ xs) tt) (number_agrees (x ∷ xs))

clauses_agree : (v w : ℕ) (vs c bs : List ℕ) → number vs ≡ Some v → w ≡ min v (2 ^ 64 - 1) →
    header_of (p_word ∷ cnf_word ∷ vs ∷ words c bs) ≡ header_says (header_from (Clauses w (digits_from Empty c)) bs)
clauses_agree v w vs c [] n e = ap (λ ts. header_of (p_word ∷ cnf_word ∷ vs ∷ ts)) (tokens_end c) ∙ clauses_end v w vs c n e
clauses_agree v w vs c (b ∷ bs) n e = by_byte (is_blank b)
    (λ f. ap (λ ts. header_of (p_word ∷ cnf_word ∷ vs ∷ ts)) (tokens_blank true c b bs f)
    ∙ clauses_blank v w vs c bs n e (clauses_agree v w vs [] bs n e)
    ∙ sym (ap header_says (blank_state (Clauses w (digits_from Empty c)) b bs f)))
    (λ f. ap (λ ts. header_of (p_word ∷ cnf_word ∷ vs ∷ ts)) (tokens_more true c b bs f)
    ∙ clauses_agree v w vs (c ++ b ∷ []) bs n e
    ∙ ap (λ d. header_says (header_from (Clauses w d) bs)) (digits_from-append Empty c (b ∷ []))
    ∙ sym (ap header_says (more_state (Clauses w (digits_from Empty c)) b bs f)))

-- with the variable count begun
no_vars : (vs : List ℕ) (ts : List (List ℕ)) (bs : List ℕ) → number vs ≡ None → header_of (p_word ∷ cnf_word ∷ vs ∷ ts) ≡ header_says (header_from Bad bs)
no_vars vs [] bs n = sym (bad_stays bs)
no_vars vs (c ∷ []) bs n = ap (λ o. sizes o (number c)) n ∙ sym (bad_stays bs)
no_vars vs (c ∷ more ∷ ts) bs n = sym (bad_stays bs)

vars_step : (vs : List ℕ) (d : Digits) (bs : List ℕ) → IsShort d → option_map capped (number vs) ≡ says d → (d ≡ Empty → ⊥) →
    header_of (p_word ∷ cnf_word ∷ vs ∷ words [] bs) ≡ header_says (header_from (vars_ended d) bs)
vars_step vs Empty bs s f g = absurd (g refl)
vars_step vs (Number m) bs s f g =
    let x = exact (number vs) m f in
    let k = x.kept in
    clauses_agree x.v m vs [] bs x.is (omega arith)
vars_step vs Large bs s f g =
    let x = exact (number vs) (2 ^ 64) f in
    let k = x.kept in
    clauses_agree x.v (2 ^ 64 - 1) vs [] bs x.is (omega arith)
vars_step vs NoNumber bs s f g = no_vars vs (words [] bs) bs (from_empty (number vs) f)

vars_blank : (vs bs : List ℕ) → header_of (p_word ∷ cnf_word ∷ words [] bs) ≡ header_says (header_from (Vars Empty) bs) →
    header_of (p_word ∷ cnf_word ∷ one_token vs ++ words [] bs) ≡ header_says (header_from (header_blank (Vars (digits_from Empty vs))) bs)
vars_blank [] bs h = h
vars_blank (x ∷ xs) bs h = vars_step (x ∷ xs) (digits_from Empty (x ∷ xs)) bs (short_from Empty (x ∷ xs) tt) (number_agrees (x ∷ xs)) (digits_begun x xs)

vars_end : (vs : List ℕ) → header_of (p_word ∷ cnf_word ∷ one_token vs) ≡ Malformed
vars_end [] = refl
vars_end (x ∷ xs) = refl

vars_agree : (vs bs : List ℕ) → header_of (p_word ∷ cnf_word ∷ words vs bs) ≡ header_says (header_from (Vars (digits_from Empty vs)) bs)
vars_agree vs [] = ap (λ ts. header_of (p_word ∷ cnf_word ∷ ts)) (tokens_end vs) ∙ vars_end vs
vars_agree vs (b ∷ bs) = by_byte (is_blank b)
    (λ f. ap (λ ts. header_of (p_word ∷ cnf_word ∷ ts)) (tokens_blank true vs b bs f)
    ∙ vars_blank vs bs (vars_agree [] bs)
    ∙ sym (ap header_says (blank_state (Vars (digits_from Empty vs)) b bs f)))
    (λ f. ap (λ ts. header_of (p_word ∷ cnf_word ∷ ts)) (tokens_more true vs b bs f)
    ∙ vars_agree (vs ++ b ∷ []) bs
    ∙ ap (λ d. header_says (header_from (Vars d) bs)) (digits_from-append Empty vs (b ∷ []))
    ∙ sym (ap header_says (more_state (Vars (digits_from Empty vs)) b bs f)))

-- 3. The words `cnf` and `p`.
test_fails : (xs ys : List ℕ) → (xs ≡ ys → ⊥) → bytes_eq xs ys ≡ false
test_fails xs ys f = go (bytes_eq xs ys) refl
  where
    go : (t : Bool) → bytes_eq xs ys ≡ t → bytes_eq xs ys ≡ false
    go true e = absurd (f ((bytes_eq-Decides xs ys).0 e))
    go false e = e

other_format : (t : List ℕ) (ts : List (List ℕ)) → (t ≡ cnf_word → ⊥) → header_of (p_word ∷ t ∷ ts) ≡ Malformed
other_format t [] f = refl
other_format t (v ∷ []) f = refl
other_format t (v ∷ c ∷ []) f = ap (λ b. if b then sizes (number v) (number c) else Malformed) (test_fails t cnf_word f)
other_format t (v ∷ c ∷ more ∷ ts) f = refl

and_false : (b : Bool) → (b && false) ≡ false
and_false true = refl
and_false false = refl

other_name : (p : List ℕ) (ts : List (List ℕ)) → (p ≡ p_word → ⊥) → header_of (p ∷ ts) ≡ Malformed
other_name p [] f = refl
other_name p (t ∷ []) f = refl
other_name p (t ∷ v ∷ []) f = refl
other_name p (t ∷ v ∷ c ∷ []) f = ap (λ b. if b && bytes_eq t cnf_word then sizes (number v) (number c) else Malformed) (test_fails p p_word f)
other_name p (t ∷ v ∷ c ∷ more ∷ ts) f = refl

-- a word that began otherwise
wrong_format : (b : ℕ) (w bs : List ℕ) → ((more : List ℕ) → (b ∷ w) ++ more ≡ cnf_word → ⊥) →
    header_of (p_word ∷ words (b ∷ w) bs) ≡ header_says (header_from Bad bs)
wrong_format b w bs f =
    let r = begun b w bs in
    ap (λ ts. header_of (p_word ∷ ts)) r.are ∙ other_format ((b ∷ w) ++ r.more) r.rest (f r.more) ∙ sym (bad_stays bs)

not_byte : (b k : ℕ) → (b == k) ≡ false → b ≡ k → ⊥
not_byte b k e f = let g : (b == k) ≡ true = search (rules, f) in absurd cc

-- the word goes on by the right byte, or by another
word_goes : (k b : ℕ) (w bs : List ℕ) (x : ℕ) (next : HeaderPart) → ((more : List ℕ) → (x ∷ w) ++ b ∷ more ≡ cnf_word → b ≡ k) →
    (b ≡ k → header_of (p_word ∷ words (x ∷ w ++ b ∷ []) bs) ≡ header_says (header_from next bs)) →
    header_of (p_word ∷ words (x ∷ w ++ b ∷ []) bs) ≡ header_says (header_from (if b == k then next else Bad) bs)
word_goes k b w bs x next f g = by_byte (b == k)
    (λ e. g (eqb-true b k e) ∙ sym (ap (λ t. header_says (header_from (if t then next else Bad) bs)) e))
    (λ e. wrong_format x (w ++ b ∷ []) bs (λ more h. not_byte b k e (f more (ap (λ y. x ∷ y) (sym (append_assoc w (b ∷ []) more)) ∙ h)))
    ∙ sym (ap (λ t. header_says (header_from (if t then next else Bad) bs)) e))

format_end : (x : ℕ) (w : List ℕ) → header_of (p_word ∷ words (x ∷ w) []) ≡ Malformed
format_end x w = ap (λ ts. header_of (p_word ∷ ts)) (tokens_end (x ∷ w))

format_blank : (x : ℕ) (w : List ℕ) (b : ℕ) (bs : List ℕ) → is_blank b ≡ true → (x ∷ w ≡ cnf_word → ⊥) →
    header_of (p_word ∷ words (x ∷ w) (b ∷ bs)) ≡ header_says (header_from Bad bs)
format_blank x w b bs e f = ap (λ ts. header_of (p_word ∷ ts)) (tokens_blank true (x ∷ w) b bs e) ∙ other_format (x ∷ w) (words [] bs) f ∙ sym (bad_stays bs)

cnf_agrees : (bs : List ℕ) → header_of (p_word ∷ words cnf_word bs) ≡ header_says (header_from Cnf bs)
cnf_agrees [] = format_end 99 (110 ∷ 102 ∷ [])
cnf_agrees (b ∷ bs) = by_byte (is_blank b)
    (λ e. ap (λ ts. header_of (p_word ∷ ts)) (tokens_blank true cnf_word b bs e) ∙ vars_agree [] bs ∙ sym (ap header_says (blank_state Cnf b bs e)))
    (λ e. ap (λ ts. header_of (p_word ∷ ts)) (tokens_more true cnf_word b bs e)
    ∙ wrong_format 99 (110 ∷ 102 ∷ b ∷ []) bs (λ more h. absurd cc) ∙ sym (ap header_says (more_state Cnf b bs e)))

cn_agrees : (bs : List ℕ) → header_of (p_word ∷ words (99 ∷ 110 ∷ []) bs) ≡ header_says (header_from Cn bs)
cn_agrees [] = format_end 99 (110 ∷ [])
cn_agrees (b ∷ bs) = by_byte (is_blank b)
    (λ e. format_blank 99 (110 ∷ []) b bs e (λ h. absurd cc) ∙ sym (ap header_says (blank_state Cn b bs e)))
    (λ e. ap (λ ts. header_of (p_word ∷ ts)) (tokens_more true (99 ∷ 110 ∷ []) b bs e)
    ∙ word_goes 102 b (110 ∷ []) bs 99 Cnf (λ more h. cc) (λ h. ap (λ x. header_of (p_word ∷ words (99 ∷ 110 ∷ x ∷ []) bs)) h ∙ cnf_agrees bs)
    ∙ sym (ap header_says (more_state Cn b bs e)))

c_agrees : (bs : List ℕ) → header_of (p_word ∷ words (99 ∷ []) bs) ≡ header_says (header_from C bs)
c_agrees [] = format_end 99 []
c_agrees (b ∷ bs) = by_byte (is_blank b)
    (λ e. format_blank 99 [] b bs e (λ h. absurd cc) ∙ sym (ap header_says (blank_state C b bs e)))
    (λ e. ap (λ ts. header_of (p_word ∷ ts)) (tokens_more true (99 ∷ []) b bs e)
    ∙ word_goes 110 b [] bs 99 Cn (λ more h. cc) (λ h. ap (λ x. header_of (p_word ∷ words (99 ∷ x ∷ []) bs)) h ∙ cn_agrees bs)
    ∙ sym (ap header_says (more_state C b bs e)))

gap_agrees : (bs : List ℕ) → header_of (p_word ∷ words [] bs) ≡ header_says (header_from Gap bs)
gap_agrees [] = refl
gap_agrees (b ∷ bs) = by_byte (is_blank b)
    (λ e. ap (λ ts. header_of (p_word ∷ ts)) (tokens_blank true [] b bs e) ∙ gap_agrees bs ∙ sym (ap header_says (blank_state Gap b bs e)))
    (λ e. ap (λ ts. header_of (p_word ∷ ts)) (tokens_more true [] b bs e) ∙ first (b == 99) refl ∙ sym (ap header_says (more_state Gap b bs e)))
  where
    first : (t : Bool) → (b == 99) ≡ t → header_of (p_word ∷ words (b ∷ []) bs) ≡ header_says (header_from (if b == 99 then C else Bad) bs)
    first true e = ap (λ x. header_of (p_word ∷ words (x ∷ []) bs)) (eqb-true b 99 e) ∙ c_agrees bs
        ∙ sym (ap (λ t. header_says (header_from (if t then C else Bad) bs)) e)
    first false e = wrong_format b [] bs (λ more h. not_byte b 99 e (begins b more h)) ∙ sym (ap (λ t. header_says (header_from (if t then C else Bad) bs)) e)
      where
        begins : (b : ℕ) (more : List ℕ) → (b ∷ []) ++ more ≡ cnf_word → b ≡ 99
        begins b more h = cc

name_agrees : (bs : List ℕ) → header_of (words p_word bs) ≡ header_says (header_from Name bs)
name_agrees [] = refl
name_agrees (b ∷ bs) = by_byte (is_blank b)
    (λ e. ap header_of (tokens_blank true p_word b bs e) ∙ gap_agrees bs ∙ sym (ap header_says (blank_state Name b bs e)))
    (λ e. let r = begun 112 (b ∷ []) bs in
    ap header_of (tokens_more true p_word b bs e) ∙ ap header_of r.are ∙ other_name ((112 ∷ b ∷ []) ++ r.more) r.rest (λ h. absurd cc) ∙ sym (bad_stays bs)
    ∙ sym (ap header_says (more_state Name b bs e)))

-- a header line
pub header_agrees : (line : List ℕ) → header_of (tokens true (112 ∷ line)) ≡ header_says (header_from Name line)
header_agrees line = sym (ap header_of (tokens_all true (112 ∷ line))) ∙ ap header_of (tokens_more true [] 112 line refl) ∙ name_agrees line
