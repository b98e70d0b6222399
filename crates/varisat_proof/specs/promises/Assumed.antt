-- What a journal says of assumptions and cores.
use Rattle.std.specs.Prelude.{ℕ, suc, List, [], ◌∷◌}
use Rattle.varisat_theory.specs.promises.Membership.{◌⊆◌}
use Rattle.varisat_theory.specs.promises.Literals.{Literal}
use Rattle.varisat_theory.specs.promises.Journals.{Entry, Accepts, Assumes, Fails}

-- the lists of assumptions that were logged as accepted, in order
abbrev pub lists_of : List Entry → List (List Literal)
lists_of [] = []
lists_of (Assumes a ∷ es) = a ∷ lists_of es
lists_of (_ ∷ es) = lists_of es

-- the list that is assumed behind the entries, where this one is before them
abbrev pub assumed_behind : List Literal → List Entry → List Literal
assumed_behind list [] = list
assumed_behind list (Assumes a ∷ es) = assumed_behind a es
assumed_behind list (_ ∷ es) = assumed_behind list es

-- each core is some of the literals that are assumed there, where this list is before the entries
abbrev pub CoresAreAssumed : List Literal → List Entry → Type 0
CoresAreAssumed list [] = Unit {0}
CoresAreAssumed list (Assumes a ∷ es) = CoresAreAssumed a es
CoresAreAssumed list (Fails core ∷ es) = (core ⊆ list) × CoresAreAssumed list es
CoresAreAssumed list (_ ∷ es) = CoresAreAssumed list es

-- the cores, in order, each with the number of clauses that were accepted before it, where so many were before the entries
abbrev pub cores_of : ℕ → List Entry → List (ℕ × List Literal)
cores_of inputs [] = []
cores_of inputs (Accepts c ∷ es) = cores_of (suc inputs) es
cores_of inputs (Fails core ∷ es) = (inputs, core) ∷ cores_of inputs es
cores_of inputs (_ ∷ es) = cores_of inputs es
