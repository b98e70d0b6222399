-- The text that is written for a formula.
use Rattle.std.specs.Prelude.{◌≡◌, ℕ, ◌+◌, List, [], ◌∷◌, ◌++◌, length, take, None, Some, codes, decimal, Result, MatchResult}
use Rattle.varisat_theory.specs.promises.Literals.{Literal, Clause}
use Rattle.varisat_literals.specs.promises.Numbers.{literal_text}
use Rattle.varisat_formula.specs.promises.Formulas.{Formula}
use Rattle.varisat_formula.specs.promises.Streams.{Taken}
use Rattle.varisat_formula.specs.promises.Dimacs.{dimacs}

-- each number with a space behind it
abbrev pub spaced_literals : List Literal → List ℕ
spaced_literals [] = []
spaced_literals (l ∷ ls) = literal_text l ++ 32 ∷ spaced_literals ls

-- for each clause its numbers, `0` and a line feed
abbrev pub clauses_text : List Clause → List ℕ
clauses_text [] = []
clauses_text (c ∷ cs) = spaced_literals c ++ 48 ∷ 10 ∷ clauses_text cs

-- `p cnf V C` and a line feed
abbrev pub header_text : ℕ → ℕ → List ℕ
header_text v c = (codes "p cnf " ++ decimal v ++ 32 ∷ decimal c) ++ 10 ∷ []

-- a formula as a text: the header, and a line for each clause
abbrev pub formula_text : Formula → List ℕ
formula_text f = header_text f.var_count (length f.clauses) ++ clauses_text f.clauses

-- what is written is read back: the same clauses and count of variables, and no fault
abbrev pub ReadsBack : Formula → Type 0
ReadsBack f =
    dimacs (formula_text f) ≡ record {
      clauses = f.clauses;
      begun = [];
      count = length f.clauses;
      header = Some (record { vars = f.var_count; clauses = length f.clauses });
      highest = f.var_count;
      fault = None;
    }

-- the text was appended; or a beginning of it, and there was one fault
abbrev pub Puts : {E : Type 0} → Taken → Result (Unit {0}) E → List ℕ → Taken → Type 0
Puts old r text new =
    MatchResult r (λ _. (new.bytes ≡ old.bytes ++ text) × (new.faults ≡ old.faults))
    (λ _. ((n : ℕ) × (new.bytes ≡ old.bytes ++ take n text))
    × (new.faults ≡ old.faults + 1))
