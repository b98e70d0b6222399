-- A small conflict, on which the laws of analysis are tried. In DIMACS numbers: 1 is decided and implies 2, 3 is decided and implies 4, and 2 and 4 imply 5.
use Rattle.std.specs.Prelude.{Bool, ◌||◌, nat_eq, if◌then◌else◌, List, [], ◌∷◌}
use Rattle.varisat_theory.specs.promises.Literals.{Literal, Clause}

-- -1 or 2; -3 or 4; -2 or -4 or 5; and the one that is false: -1 or -4 or -5
abbrev pub small_clauses : List Clause
small_clauses = (1 ∷ 2 ∷ []) ∷ (5 ∷ 6 ∷ []) ∷ (3 ∷ 7 ∷ 8 ∷ []) ∷ (1 ∷ 7 ∷ 9 ∷ []) ∷ []

-- the clause that is false at the conflict
abbrev pub small_conflict : Clause
small_conflict = 1 ∷ 7 ∷ 9 ∷ []

-- the reasons of 2, 4 and 5
abbrev pub small_reason : Literal → Clause
small_reason l =
    if nat_eq l 2 then 1 ∷ 2 ∷ [] else if nat_eq l 6 then 5 ∷ 6 ∷ [] else if nat_eq l 8 then 3 ∷ 7 ∷ 8 ∷ [] else []

-- 2 and 5
abbrev pub small_resolved : Literal → Bool
small_resolved l = nat_eq l 2 || nat_eq l 8

-- -4 or -1
abbrev pub small_learned : Clause
small_learned = 7 ∷ 1 ∷ []

-- -4, which is false where 3 is true
abbrev pub small_assumption : Literal
small_assumption = 7

-- -4 and 3
abbrev pub small_core : List Literal
small_core = small_assumption ∷ 4 ∷ []
