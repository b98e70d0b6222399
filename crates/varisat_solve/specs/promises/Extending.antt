-- How a model of what a formula was made into is extended to one of the formula.
use Rattle.std.specs.Prelude.{ℕ, max, List, [], ◌∷◌, Some, None}
use Rattle.varisat_theory.specs.promises.Literals.{Literal, Clause}
use Rattle.varisat_formula.specs.promises.Formulas.{variables_of}
use Rattle.varisat_formula.specs.promises.Values.{model_values, literals_from}
use Rattle.varisat_rules.specs.promises.Stacks.{extended}
use Rattle.varisat.specs.promises.Decided.{Conclusion, Decided, Unknown}

-- how many variables there are up to the highest that the clauses name
abbrev pub named_count : List Clause → ℕ
named_count [] = 0
named_count (c ∷ P) = max (variables_of c) (named_count P)

-- the model over the first n variables, of which those that it does not list are false before it is extended
abbrev pub model_of_all : List Clause → List Literal → ℕ → List Literal
model_of_all stack model n = literals_from 0 (extended stack (model_values n model))

-- the conclusion with the model over the first n variables, if there is one
abbrev pub conclusion_of_all : List Clause → ℕ → Conclusion → Conclusion
conclusion_of_all stack n (Decided None) = Decided None
conclusion_of_all stack n (Decided (Some model)) = Decided (Some (model_of_all stack model n))
conclusion_of_all stack n (Unknown reason) = Unknown reason
