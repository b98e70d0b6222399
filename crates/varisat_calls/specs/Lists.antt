-- Clauses and values as lists of numbers.
use Rattle.std.specs.Prelude.{◌/◌, ◌<◌, Bool, ℤ, pos, List, [], ◌∷◌, ◌++◌, EachIndex, slice_index}
use Rattle.varisat_theory.specs.promises.Literals.{Literal, Clause}
use Rattle.varisat_literals.specs.promises.Numbers.{variable_limit}
use Rattle.varisat_calls.specs.Numbers.{returned_numbers}
use Rattle.varisat_formula.specs.promises.Values.{literals_from}

-- no variable is above the limit that a solver has
abbrev pub AreWithinLimit : List Literal → Type 0
AreWithinLimit ls = EachIndex ls (λ k. slice_index ls k / 2 < variable_limit)

-- the numbers of the clauses, each of which a 0 ends
abbrev pub clause_numbers : List Clause → List ℤ
clause_numbers [] = []
clause_numbers (c ∷ cs) = returned_numbers c ++ pos 0 ∷ clause_numbers cs

-- the numbers of all variables, negative where they are false
abbrev pub value_numbers : List Bool → List ℤ
value_numbers vs = returned_numbers (literals_from 0 vs)
