-- Values of variables as a list, from the first variable on, and the literals that they make true.
use Rattle.std.specs.Prelude.{ℕ, ◌+◌, ◌/◌, ◌%◌, nat_eq, Bool, false, List, [], ◌∷◌, replicate, slice_index_or, slice_set}
use Rattle.std.specs.List.{list_any}
use Rattle.varisat_theory.specs.promises.Literals.{Literal, Clause, Assignment, literal_of, value}

-- the assignment by the values, where all variables behind them are false
abbrev pub assignment_of : List Bool → Assignment
assignment_of vs v = slice_index_or vs v false

-- whether a literal of the clause is true
abbrev pub is_satisfied : Assignment → Clause → Bool
is_satisfied a c = list_any (value a) c

-- the values where the literal is made true
abbrev pub with_true : Literal → List Bool → List Bool
with_true l vs = slice_set vs (l / 2) (nat_eq (l % 2) 0)

-- the values where each literal is made true in turn
abbrev pub with_all_true : List Literal → List Bool → List Bool
with_all_true [] vs = vs
with_all_true (l ∷ ls) vs = with_all_true ls (with_true l vs)

-- The values of so many variables by the literals, of which the last of a variable counts. A variable of none is false.
abbrev pub model_values : ℕ → List Literal → List Bool
model_values n ls = with_all_true ls (replicate n false)

-- the literals that are true, one for each value, where the first one is of the variable v
abbrev pub literals_from : ℕ → List Bool → List Literal
literals_from v [] = []
literals_from v (b ∷ bs) = literal_of v b ∷ literals_from (v + 1) bs
