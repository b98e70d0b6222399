-- What simplification leaves of clauses: what says nothing of variables that have a value.
use Rattle.std.specs.Prelude.{Bool, is_none, Option, None, List, [], ◌∷◌, suc, if◌then◌else◌, slice_index_or}
use Rattle.std.specs.List.{filter, list_all}
use Rattle.varisat_theory.specs.promises.Literals.{Literal, Clause, variable_of}

-- the literal's variable has no value
abbrev pub is_unassigned : List (Option Bool) → Literal → Bool
is_unassigned values l = is_none (slice_index_or values (variable_of l) None)

-- no literal of the clause has a value
abbrev pub are_unassigned : List (Option Bool) → Clause → Bool
are_unassigned values c = list_all (is_unassigned values) c

-- what a literal implies by clauses without a value: nothing where it has one itself
abbrev pub unassigned_implied : List (Option Bool) → Literal → List Literal → List Literal
unassigned_implied values l ms = if is_unassigned values l then filter (is_unassigned values) ms else []

-- that of each literal from l on
abbrev pub unassigned_from : List (Option Bool) → Literal → List (List Literal) → List (List Literal)
unassigned_from values l [] = []
unassigned_from values l (ms ∷ B) = unassigned_implied values l ms ∷ unassigned_from values (suc l) B

-- the clauses of two literals without those that have a literal with a value
abbrev pub without_assigned : List (Option Bool) → List (List Literal) → List (List Literal)
without_assigned values B = unassigned_from values 0 B
