-- Lists of clauses and of lines that are equal where clauses are read as sets.
use Rattle.std.specs.Prelude.{◌≡◌, ℕ, Bool, true, false, ◌||◌, nat_eq, List, [], ◌∷◌}
use Rattle.varisat_theory.specs.promises.Membership.{SameSet}
use Rattle.varisat_theory.specs.promises.Literals.{Clause, variable_of}
use Rattle.varisat_theory.specs.promises.Derivations.{Line, Add, Delete, TakesOut}

-- The same clauses as sets, each as often, in whatever order: each one of the first list is taken out of the second in turn, and nothing is left.
abbrev pub SameClauses : List Clause → List Clause → Type 0
SameClauses [] Q = Q ≡ []
SameClauses (c ∷ P) Q = (R : List Clause) × TakesOut Q c R × SameClauses P R

-- both add or both delete, and the clauses are equal as sets
abbrev pub SameLine : Line → Line → Type 0
SameLine (Add c) (Add d) = SameSet c d
SameLine (Add c) (Delete d) = ⊥
SameLine (Delete c) (Add d) = ⊥
SameLine (Delete c) (Delete d) = SameSet c d

-- as many lines, each equal to the one at its place
abbrev pub SameLines : List Line → List Line → Type 0
SameLines [] [] = Unit {0}
SameLines [] (m ∷ ms) = ⊥
SameLines (l ∷ ls) [] = ⊥
SameLines (l ∷ ls) (m ∷ ms) = SameLine l m × SameLines ls ms

-- whether a literal of the clause is one of the variable
abbrev pub mentions : ℕ → Clause → Bool
mentions v [] = false
mentions v (l ∷ c) = nat_eq (variable_of l) v || mentions v c

-- the clause joins the others unless it is dropped
abbrev pub unless : Bool → Clause → List Clause → List Clause
unless true c P = P
unless false c P = c ∷ P

-- the clauses that are left where those with a literal of the variable are dropped
abbrev pub without : ℕ → List Clause → List Clause
without v [] = []
without v (c ∷ P) = unless (mentions v c) c (without v P)
