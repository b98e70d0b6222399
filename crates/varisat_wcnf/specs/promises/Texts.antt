-- What a WCNF text means, in the new format and in the old one.
use Rattle.std.specs.Prelude.{ℕ, ◌+◌, ◌^◌, Bool, true, false, if◌then◌else◌, nat_lt, nat_le, ◌==◌, List, [], ◌∷◌, ◌++◌, map, Option, Some, None, option_map, Result, Ok, Err, codes, bytes_eq}
use Rattle.std.specs.List.{slice_split}
use Rattle.varisat_theory.specs.promises.Literals.{Clause}
use Rattle.varisat_literals.specs.promises.Numbers.{variable_limit}
use Rattle.varisat_formula.specs.declared.dimacs.token.Meaning.{Meaning}
use Rattle.varisat_formula.specs.declared.dimacs.token.Meaning.TheVariants as token
use Rattle.varisat_formula.specs.promises.Dimacs.{is_line_feed, is_blank, nonempty, number, meaning}
use Rattle.varisat_formula.specs.promises.Formulas.{variables_of}
use Rattle.varisat_maxsat.specs.promises.Problems.{Problem, starting, with_var_count, with_hard, with_soft}
use Rattle.varisat_wcnf.specs.declared.wcnf.WcnfFault.{WcnfFault}
use Rattle.varisat_wcnf.specs.declared.wcnf.WcnfFault.TheVariants as fault
use Rattle.varisat_wcnf.specs.declared.wcnf.WcnfError.{WcnfError}
use Rattle.varisat_wcnf.specs.declared.wcnf.WcnfHeading.{WcnfHeading}

-- The words of a line are its longest runs of bytes that are no blanks.
abbrev pub line_words : List ℕ → List (List ℕ)
line_words line = nonempty (slice_split is_blank line)

-- a number below 2^64
abbrev pub below_limit : Option ℕ → Option ℕ
below_limit None = None
below_limit (Some n) = if nat_lt n (2 ^ 64) then Some n else None

-- The clause that begins with these literals: literals up to a `0`, which ends the line.
abbrev pub clause_from : Clause → List Meaning → Result Clause WcnfFault
clause_from c (token.End ∷ []) = Ok c
clause_from c (token.Literal l ∷ ms) = clause_from (c ++ l ∷ []) ms
clause_from c (token.TooLarge ∷ ms) = Err fault.VariableLimit
clause_from c (token.Wrong ∷ ms) = Err fault.Literal
clause_from c _ = Err fault.End

-- the clause of these words
abbrev pub clause_of : List (List ℕ) → Result Clause WcnfFault
clause_of ws = clause_from [] (map meaning ws)

-- What was read so far: a problem, whether a header or a clause came, and in the old format the weight from which on a
-- clause is hard.
pub record WcnfReading : Type 0 where
  pub problem : Problem
  pub begun : Bool
  pub top : Option ℕ

-- a clause more, which is added as a hard or a soft one
abbrev pub after_clause : (Clause → Problem → Problem) → WcnfReading → Result Clause WcnfFault →
    Result WcnfReading WcnfFault
after_clause add r (Err f) = Err f
after_clause add r (Ok c) = Ok (record r { problem = add c (with_var_count (variables_of c) r.problem); begun = true })

-- whether a clause of the weight is hard
abbrev pub is_hard : Option ℕ → ℕ → Bool
is_hard None w = false
is_hard (Some top) w = nat_le top w

-- a clause with a weight more
abbrev pub after_weight : Option ℕ → WcnfReading → Result Clause WcnfFault → Result WcnfReading WcnfFault
after_weight None r c = Err fault.Start
after_weight (Some w) r c = if is_hard r.top w then after_clause with_hard r c else after_clause (with_soft w) r c

-- A header: how many variables there are at least; how many clauses, which is not checked; and the weight from which on
-- a clause is hard, if it names one.
abbrev pub heading_by : Option ℕ → Option ℕ → Option (Option ℕ) → Result WcnfHeading WcnfFault
heading_by (Some v) (Some count) (Some top) =
    if nat_lt variable_limit v then Err fault.VariableLimit else Ok (record { variables = v; top = top })
heading_by _ _ _ = Err fault.Header

-- the weight from which on a clause is hard, if there is one
abbrev pub top_of : List (List ℕ) → Option (Option ℕ)
top_of [] = Some None
top_of (w ∷ []) = option_map Some (below_limit (number w))
top_of (w ∷ more ∷ ws) = None

-- what follows the `p` of a header
abbrev pub heading_of : List (List ℕ) → Result WcnfHeading WcnfFault
heading_of (name ∷ v ∷ count ∷ ws) =
    if bytes_eq name (codes "wcnf") then heading_by (below_limit (number v)) (below_limit (number count)) (top_of ws)
    else Err fault.Header
heading_of _ = Err fault.Header

-- what a header makes of the reading: it comes first
abbrev pub after_heading : WcnfReading → Result WcnfHeading WcnfFault → Result WcnfReading WcnfFault
after_heading r (Err f) = Err f
after_heading r (Ok h) =
    if r.begun then Err fault.Header
    else Ok (record { problem = with_var_count h.variables r.problem; begun = true; top = h.top })

-- a word that begins with `c`
abbrev pub is_comment : List ℕ → Bool
is_comment [] = false
is_comment (b ∷ bs) = b == 99

-- What the words of a line say: nothing or a comment; a header; `h` and a hard clause; a weight and a clause.
abbrev pub after_line : WcnfReading → List (List ℕ) → Result WcnfReading WcnfFault
after_line r [] = Ok r
after_line r (w ∷ ws) =
    if is_comment w then Ok r else (if bytes_eq w (codes "p") then after_heading r (heading_of ws) else (
    if bytes_eq w (codes "h") then after_clause with_hard r (clause_of ws)
    else after_weight (below_limit (number w)) r (clause_of ws)))

-- a fault in the line
abbrev pub at_line : ℕ → Result WcnfReading WcnfFault → Result WcnfReading WcnfError
at_line n (Ok r) = Ok r
at_line n (Err f) = Err (record { line = n; fault = f })

-- what lines in turn say, the first of which is line n; the first fault is reported
abbrev pub after_lines : Result WcnfReading WcnfError → ℕ → List (List ℕ) → Result WcnfReading WcnfError
after_lines s n [] = s
after_lines (Err e) n (line ∷ lines) = Err e
after_lines (Ok r) n (line ∷ lines) = after_lines (at_line n (after_line r (line_words line))) (n + 1) lines

-- what a text means
abbrev pub wcnf : List ℕ → Result WcnfReading WcnfError
wcnf text =
    after_lines (Ok (record { problem = starting 0; begun = false; top = None })) 1 (slice_split is_line_feed text)
