-- The literals of a text's clauses are below the limit.
use Rattle.std.proofs.Common.{◌≡◌, ℕ, zero, suc, ◌+◌, ◌-◌, ◌/◌, ◌^◌, ◌<◌, ◌≤◌, List, [], ◌∷◌, ◌++◌, Bool, true, false, ◌==◌, nat_lt, if◌then◌else◌, refl, sym, subst, max, ⊎_elim, arith, rules, Option, Some, None}
use Rattle.varisat_theory.specs.promises.Literals.{Literal, Clause, literal_of}
use Rattle.varisat_theory.specs.promises.Membership.{◌∈◌}
use Rattle.varisat_theory.proofs.clauses.Members.{∈-append_cases}
use Rattle.varisat_literals.specs.promises.Numbers.{variable_limit}
use Rattle.varisat_formula.specs.declared.dimacs.token.Meaning.{Meaning}
use Rattle.varisat_formula.specs.declared.dimacs.token.Meaning.TheVariants as meant
use Rattle.varisat_formula.specs.declared.dimacs.header.Heading.{Heading}
use Rattle.varisat_formula.specs.declared.dimacs.header.Heading.TheVariants.{Malformed, Oversized, Sized}
use Rattle.varisat_formula.specs.declared.dimacs.error.DimacsErrorKind.{DimacsErrorKind}
use Rattle.varisat_formula.specs.declared.dimacs.error.DimacsErrorKind.TheVariants.{ClauseCount, VarCount, UnterminatedClause}
use Rattle.varisat_formula.specs.declared.dimacs.error.DimacsError.{DimacsError}
use Rattle.varisat_formula.specs.promises.Dimacs.{in_range, positive, negative, number, meaning, Item, Header, Token, header_items, header_of, token_items, tokens, line_items, items, next, Reading, nothing, failed, is_one_too_many, is_above, after_token, is_started, after_header, after, step_by, step, read, is_short, at_end, close_by, Ends, lines, last_line, dimacs}
use Rattle.varisat_solve.specs.promises.Solving.{AreLow}

-- each literal is below the limit
abbrev IsLow : List Literal → Type 0
IsLow c = (l : Literal) → l ∈ c → l < 2 ^ 29

-- 1. What a token means.
abbrev MeansLow : Meaning → Type 0
MeansLow (meant.Literal l) = l < 2 ^ 29
MeansLow meant.End = Unit {0}
MeansLow meant.TooLarge = Unit {0}
MeansLow meant.Wrong = Unit {0}

low-if : (b : Bool) (x y : Meaning) → MeansLow x → MeansLow y → MeansLow (if b then x else y)
low-if true x y h k = h
low-if false x y h k = k

low-literal : (n : ℕ) (b : Bool) → 0 < n → n ≤ variable_limit → literal_of (n - 1) b < 2 ^ 29
low-literal n true p h = omega (arith, p, h)
low-literal n false p h = omega (arith, p, h)

in-limit : (n m : ℕ) → nat_lt n m ≡ false → m ≤ n
in-limit n m e = search (rules, e)

ranged-low : (b : Bool) (n : ℕ) → 0 < n → MeansLow (in_range b n)
ranged-low b n p = go (nat_lt variable_limit n) refl
  where
    go : (t : Bool) → nat_lt variable_limit n ≡ t → MeansLow (if t then meant.TooLarge else meant.Literal (literal_of (n - 1) b))
    go true e = tt
    go false e = low-literal n b p (in-limit variable_limit n e)

positive-low : (o : Option ℕ) → MeansLow (positive o)
positive-low None = tt
positive-low (Some zero) = tt
positive-low (Some (suc n)) = ranged-low true (suc n) (omega arith)

negative-low : (o : Option ℕ) → MeansLow (negative o)
negative-low None = tt
negative-low (Some zero) = tt
negative-low (Some (suc n)) = ranged-low false (suc n) (omega arith)

meaning-low : (t : List ℕ) → MeansLow (meaning t)
meaning-low [] = tt
meaning-low (b ∷ bs) = low-if (b == 45) (negative (number bs)) (positive (number (b ∷ bs))) (negative-low (number bs)) (positive-low (number (b ∷ bs)))

-- 2. Items.
abbrev ItemLow : Item → Type 0
ItemLow (Header n h) = Unit {0}
ItemLow (Token n m) = MeansLow m

abbrev ItemsLow : List Item → Type 0
ItemsLow [] = Unit {0}
ItemsLow (i ∷ is) = ItemLow i × ItemsLow is

items-append : (is js : List Item) → ItemsLow is → ItemsLow js → ItemsLow (is ++ js)
items-append [] js h k = k
items-append (i ∷ is) js h k = (h.0, items-append is js h.1 k)

items-if : (b : Bool) (is js : List Item) → ItemsLow is → ItemsLow js → ItemsLow (if b then is else js)
items-if true is js h k = h
items-if false is js h k = k

tokens-low : (n : ℕ) (ts : List (List ℕ)) → ItemsLow (token_items n ts)
tokens-low n [] = tt
tokens-low n (t ∷ ts) = (meaning-low t, tokens-low n ts)

header-low : (b : Bool) (n : ℕ) (h : Heading) → ItemsLow (header_items b n h)
header-low true n h = (tt, tt)
header-low false n h = tt

line-low : (ended : Bool) (n : ℕ) (line : List ℕ) → ItemsLow (line_items ended n line)
line-low ended n [] = tt
line-low ended n (b ∷ bs) =
    let headed = header_items ended n (header_of (tokens true (b ∷ bs))) in
    let plain = token_items n (tokens ended (b ∷ bs)) in
    items-if (b == 99) [] (if b == 112 then headed else plain) tt
    (items-if (b == 112) headed plain (header-low ended n (header_of (tokens true (b ∷ bs)))) (tokens-low n (tokens ended (b ∷ bs))))

items-low : (ended : Bool) (n : ℕ) (ls : List (List ℕ)) → ItemsLow (items ended n ls)
items-low ended n [] = tt
items-low ended n (line ∷ []) = line-low ended n line
items-low ended n (line ∷ more ∷ ls) =
    items-append (line_items true n line) (items ended (next n) (more ∷ ls)) (line-low true n line) (items-low ended (next n) (more ∷ ls))

-- 3. Reading.
record ReadsLow (r : Reading) : Type 0 where
  ended : AreLow r.clauses
  open_one : IsLow r.begun

reads-if : (b : Bool) (r s : Reading) → ReadsLow r → ReadsLow s → ReadsLow (if b then r else s)
reads-if true r s h k = h
reads-if false r s h k = k

reads-failed : (r : Reading) (n : ℕ) (k : DimacsErrorKind) → ReadsLow r → ReadsLow (failed r n k)
reads-failed r n k h = record { ended = h.ended; open_one = h.open_one }

more-low : (P : List Clause) (c : Clause) → AreLow P → IsLow c → AreLow (P ++ c ∷ [])
more-low P c h k d l m i =
    ⊎_elim (λ x. h d l x i) (λ x. ⊎_elim (λ e. k l (subst (λ y. l ∈ y) e i)) (λ z. absurd z) x) (∈-append_cases d P (c ∷ []) m)

longer-low : (c : Clause) (m : Literal) → IsLow c → m < 2 ^ 29 → IsLow (c ++ m ∷ [])
longer-low c m h k l i = ⊎_elim (λ x. h l x) (λ x. ⊎_elim (λ e. subst (λ y. y < 2 ^ 29) (sym e) k) (λ z. absurd z) x) (∈-append_cases l c (m ∷ []) i)

token-low : (r : Reading) (n : ℕ) (m : Meaning) → MeansLow m → ReadsLow r → ReadsLow (after_token r n m)
token-low r n meant.Wrong p h = reads-failed r n _ h
token-low r n meant.TooLarge p h = reads-failed r n _ h
token-low r n meant.End p h =
    reads-if (is_one_too_many r.header r.begun r.count) (failed r n ClauseCount) (record r {
      clauses = r.clauses ++ r.begun ∷ [];
      begun = [];
      count = next r.count;
    }) (reads-failed r n ClauseCount h)
    (record { ended = more-low r.clauses r.begun h.ended h.open_one; open_one = λ l x. absurd x })
token-low r n (meant.Literal l) p h =
    let more : Reading = record r { begun = r.begun ++ l ∷ []; highest = max r.highest (l / 2 + 1) } in
    reads-if (is_one_too_many r.header r.begun r.count) (failed r n ClauseCount)
    (if is_above r.header (l / 2 + 1) then failed r n VarCount else more) (reads-failed r n ClauseCount h)
    (reads-if (is_above r.header (l / 2 + 1)) (failed r n VarCount) more (reads-failed r n VarCount h)
    (record { ended = h.ended; open_one = longer-low r.begun l h.open_one p }))

heading-low : (r : Reading) (n : ℕ) (k : Heading) → ReadsLow r → ReadsLow (after_header r n k)
heading-low r n Malformed h = reads-failed r n _ h
heading-low r n Oversized h = reads-if (is_started r.header r.count r.begun) _ _ (reads-failed r n _ h) (reads-failed r n _ h)
heading-low r n (Sized s) h =
    reads-if (is_started r.header r.count r.begun) _ (record r { header = Some s; highest = max r.highest s.vars }) (reads-failed r n _ h)
    (record { ended = h.ended; open_one = h.open_one })

item-low : (r : Reading) (i : Item) → ItemLow i → ReadsLow r → ReadsLow (after r i)
item-low r (Header n k) p h = heading-low r n k h
item-low r (Token n m) p h = token-low r n m p h

step-low : (o : Option DimacsError) (r : Reading) (i : Item) → ItemLow i → ReadsLow r → ReadsLow (step_by o r i)
step-low None r i p h = item-low r i p h
step-low (Some e) r i p h = h

read-low : (r : Reading) (is : List Item) → ItemsLow is → ReadsLow r → ReadsLow (read r is)
read-low r [] p h = h
read-low r (i ∷ is) p h = read-low (step r i) is p.1 (step-low r.fault r i p.0 h)

end-low : (r : Reading) (n : ℕ) → ReadsLow r → ReadsLow (at_end r n)
end-low r n h =
    reads-if _ (failed r n UnterminatedClause) (if is_short r.header r.count then failed r n ClauseCount else r) (reads-failed r n UnterminatedClause h)
    (reads-if (is_short r.header r.count) (failed r n ClauseCount) r (reads-failed r n ClauseCount h) h)

close-low : (o : Option DimacsError) (r : Reading) (n : ℕ) → ReadsLow r → ReadsLow (close_by o Ends r n)
close-low None r n h = end-low r n h
close-low (Some e) r n h = h

pub text-low : (text : List ℕ) → AreLow (dimacs text).clauses
text-low text =
    let all = read nothing (items true 1 (lines text)) in
    (close-low all.fault all (last_line 1 (lines text)) (read-low nothing (items true 1 (lines text)) (items-low true 1 (lines text))
    (record { ended = λ c l x i. absurd x; open_one = λ l x. absurd x }))).ended
