-- How a model of what is left of a formula is extended to one of all of it.
use Rattle.std.specs.Prelude.{◌≡◌, ℕ, ◌/◌, Bool, true, false, not, if◌then◌else◌, List, [], ◌∷◌, slice_index_or}
use Rattle.varisat_theory.specs.promises.Literals.{Clause}
use Rattle.varisat_formula.specs.promises.Values.{assignment_of, is_satisfied, with_true}

-- the clause's first literal is made true unless the clause is satisfied
abbrev pub amended : Clause → List Bool → List Bool
amended [] vs = vs
amended (l ∷ c) vs = if is_satisfied (assignment_of vs) (l ∷ c) then vs else with_true l vs

-- amended by each clause, from the last to the first
abbrev pub extended : List Clause → List Bool → List Bool
extended [] vs = vs
extended (c ∷ stack) vs = amended c (extended stack vs)

-- the clause's first literal is not of a variable that is flagged
abbrev pub avoids : List Bool → Clause → Bool
avoids frozen [] = true
avoids frozen (l ∷ c) = not (slice_index_or frozen (l / 2) false)

-- no extension changes the value of a variable that is flagged
abbrev pub KeepsFrozen : List Bool → List Clause → Type 0
KeepsFrozen frozen stack =
    (vs : List Bool) (v : ℕ) → slice_index_or frozen v false ≡ true →
    slice_index_or (extended stack vs) v false ≡ slice_index_or vs v false
