-- Clauses that were taken are only missing in front.
use Rattle.std.proofs.Common.{◌≡◌, ℕ, ◌+◌, ◌/◌, List, [], ◌∷◌, ◌++◌, Bool, true, false, not, if◌then◌else◌, refl, sym, ap, ◌∙◌, append_assoc, append-nil, Option, Some, None, max}
use Rattle.varisat_formula.specs.declared.dimacs.header.Heading.{Heading}
use Rattle.varisat_formula.specs.declared.dimacs.header.Heading.TheVariants.{Malformed, Oversized, Sized}
use Rattle.varisat_formula.specs.declared.dimacs.token.Meaning.{Meaning}
use Rattle.varisat_formula.specs.declared.dimacs.token.Meaning.TheVariants.{End, Literal, TooLarge, Wrong}
use Rattle.varisat_formula.specs.declared.dimacs.error.DimacsError.{DimacsError}
use Rattle.varisat_formula.specs.declared.dimacs.error.DimacsErrorKind.TheVariants.{LiteralTooLarge, InvalidHeader, VarCount, ClauseCount, UnterminatedClause}
use Rattle.varisat_formula.specs.promises.Dimacs.{Item, Header, Token, Reading, after_token, after_header, after, step, step_by, read, at_end, failed, is_one_too_many, is_above, is_started, is_short, is_none_open, next, Ending, Ends, GoesOn, BreaksOff, is_whole, close, close_by, last_line, lines}
use Rattle.varisat_formula.specs.promises.Rest.{Progress, gives_from, rest_items, with_front}

front_if : (front : List (List ℕ)) (t : Bool) (a b : Reading) → (if t then with_front front a else with_front front b) ≡ with_front front (if t then a else b)
front_if front true a b = refl
front_if front false a b = refl

token_front : (front : List (List ℕ)) (r : Reading) (n : ℕ) (m : Meaning) → after_token (with_front front r) n m ≡ with_front front (after_token r n m)
token_front front r n Wrong = refl
token_front front r n TooLarge = refl
token_front front r n End =
    ap (λ cs. if is_one_too_many r.header r.begun r.count then failed
    (with_front front r) n ClauseCount else record r { clauses = cs; begun = []; count = next r.count }) (append_assoc front r.clauses (r.begun ∷ []))
    ∙ front_if front (is_one_too_many r.header r.begun r.count) (failed r n ClauseCount)
    (record r { clauses = r.clauses ++ r.begun ∷ []; begun = []; count = next r.count })
token_front front r n (Literal l) =
    let d : Reading = record r { begun = r.begun ++ l ∷ []; highest = max r.highest (l / 2 + 1) } in
    let c : Reading = if is_above r.header (l / 2 + 1) then failed r n VarCount else d in
    ap (λ x. if is_one_too_many r.header r.begun r.count then with_front front (failed r n ClauseCount) else x)
    (front_if front (is_above r.header (l / 2 + 1)) (failed r n VarCount) d)
    ∙ front_if front (is_one_too_many r.header r.begun r.count) (failed r n ClauseCount) c

header_front : (front : List (List ℕ)) (r : Reading) (n : ℕ) (h : Heading) → after_header (with_front front r) n h ≡ with_front front (after_header r n h)
header_front front r n Malformed = refl
header_front front r n Oversized = front_if front (is_started r.header r.count r.begun) (failed r n InvalidHeader) (failed r n LiteralTooLarge)
header_front front r n (Sized s) = front_if front (is_started r.header r.count r.begun) (failed r n InvalidHeader)
    (record r { header = Some s; highest = max r.highest s.vars })

after_front : (front : List (List ℕ)) (r : Reading) (i : Item) → after (with_front front r) i ≡ with_front front (after r i)
after_front front r (Header n h) = header_front front r n h
after_front front r (Token n m) = token_front front r n m

by_front : (f : Option DimacsError) (front : List (List ℕ)) (r : Reading) (i : Item) → step_by f (with_front front r) i ≡ with_front front (step_by f r i)
by_front None front r i = after_front front r i
by_front (Some e) front r i = refl

pub read_front : (front : List (List ℕ)) (r : Reading) (xs : List Item) → read (with_front front r) xs ≡ with_front front (read r xs)
read_front front r [] = refl
read_front front r (x ∷ xs) = ap (λ s. read s xs) (by_front r.fault front r x) ∙ read_front front (step r x) xs

end_front : (front : List (List ℕ)) (r : Reading) (n : ℕ) → at_end (with_front front r) n ≡ with_front front (at_end r n)
end_front front r n =
    ap (λ x. if not (is_none_open r.begun) then with_front front (failed r n UnterminatedClause) else x)
    (front_if front (is_short r.header r.count) (failed r n ClauseCount) r)
    ∙ front_if front (not (is_none_open r.begun)) (failed r n UnterminatedClause) (if is_short r.header r.count then failed r n ClauseCount else r)

close_front : (f : Option DimacsError) (ending : Ending) (front : List (List ℕ)) (r : Reading) (n : ℕ) →
    close_by f ending (with_front front r) n ≡ with_front front (close_by f ending r n)
close_front (Some e) ending front r n = refl
close_front None Ends front r n = end_front front r n
close_front None GoesOn front r n = refl
close_front None (BreaksOff k) front r n = refl

gives_front : (ending : Ending) (p : Progress) (front : List (List ℕ)) (text : List ℕ) →
    gives_from ending (record p { reading = with_front front p.reading }) text ≡ with_front front (gives_from ending p text)
gives_front ending p front text =
    let xs : List Item = rest_items (is_whole ending) p.line p.place (lines text) in
    let n : ℕ = last_line p.line (lines text) in
    ap (λ r. if p.over then with_front front p.reading else close ending r n) (read_front front p.reading xs)
    ∙ ap (λ r. if p.over then with_front front p.reading else r) (close_front (read p.reading xs).fault ending front (read p.reading xs) n)
    ∙ front_if front p.over p.reading (close ending (read p.reading xs) n)

pub gives_taken : (ending : Ending) (p q : Progress) (front : List (List ℕ)) (text : List ℕ) → front ≡ p.reading.clauses →
    q ≡ record p { reading = record p.reading { clauses = [] } } →
    gives_from ending p text ≡ with_front front (gives_from ending q text)
gives_taken ending p q front text f e =
    sym (ap (λ cs. gives_from ending (record p { reading = record p.reading { clauses = cs } }) text) (append-nil front ∙ f))
    ∙ gives_front ending (record p { reading = record p.reading { clauses = [] } }) front text
    ∙ sym (ap (λ s. with_front front (gives_from ending s text)) e)
