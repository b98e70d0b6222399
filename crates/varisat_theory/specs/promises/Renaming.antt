-- Clauses, lines and assignments under other names for the variables.
use Rattle.std.specs.Prelude.{◌≡◌, ◌*◌, List, map}
use Rattle.varisat_theory.specs.promises.Membership.{◌∈◌}
use Rattle.varisat_theory.specs.promises.Literals.{Literal, Clause, Assignment, opposite, value}
use Rattle.varisat_theory.specs.promises.Derivations.{Line, Add, Delete}

-- a map of literals that renames variables
abbrev pub KeepsOpposites : (Literal → Literal) → Type 0
KeepsOpposites f = (l : Literal) → f (opposite l) ≡ opposite (f l)

-- no two of the literals get one name
abbrev pub IsOneToOneOn : (Literal → Literal) → List Literal → Type 0
IsOneToOneOn f ls = (l m : Literal) → l ∈ ls → m ∈ ls → f l ≡ f m → l ≡ m

-- each literal of the clause stands in the list, and so does its opposite
abbrev pub IsWithin : List Literal → List Literal → Type 0
IsWithin ls c = (l : Literal) → l ∈ c → (l ∈ ls) × (opposite l ∈ ls)

-- the clauses under their new names
abbrev pub rename : (Literal → Literal) → List Clause → List Clause
rename f P = map (map f) P

-- the line under its new names
abbrev pub rename_line : (Literal → Literal) → Line → Line
rename_line f (Add c) = Add (map f c)
rename_line f (Delete c) = Delete (map f c)

-- what an assignment of the new names says of the old ones
abbrev pub named_back : (Literal → Literal) → Assignment → Assignment
named_back f a v = value a (f (2 * v))
