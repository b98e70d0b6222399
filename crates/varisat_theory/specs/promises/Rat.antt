-- The lines of DRAT: a clause that does not follow may join where it is RAT, which keeps the clauses satisfiable.
use Rattle.std.specs.Prelude.{◌≡◌, Bool, true, false, nat_eq, List, [], ◌∷◌, ◌++◌, ◌⊎◌}
use Rattle.varisat_theory.specs.promises.Membership.{◌∈◌}
use Rattle.varisat_theory.specs.promises.Literals.{Literal, Clause, opposite}
use Rattle.varisat_theory.specs.promises.Propagation.{Follows}
use Rattle.varisat_theory.specs.promises.Derivations.{Line, Add, Delete, TakesOut}

-- the literal stands before the others unless it is left out
abbrev pub put_unless : Bool → Literal → Clause → Clause
put_unless true l c = c
put_unless false l c = l ∷ c

-- the clause without a literal
abbrev pub but_for : Literal → Clause → Clause
but_for l [] = []
but_for l (m ∷ c) = put_unless (nat_eq m l) m (but_for l c)

-- RAT on l: each clause of P that has the opposite of l follows once the literals of c replace it
abbrev pub ResolventsFollow : List Clause → Clause → Literal → Type 0
ResolventsFollow P c l = (d : Clause) → d ∈ P → opposite l ∈ d → Follows P (c ++ but_for (opposite l) d)

-- RAT on its first literal
abbrev pub IsRat : List Clause → Clause → Type 0
IsRat P [] = ⊥
IsRat P (l ∷ c) = ResolventsFollow P (l ∷ c) l

-- A line of DRAT, where P is held before it and Q after it: an added clause follows or is RAT, and a deletion takes a clause out or
-- is passed over.
abbrev pub IsDratLine : List Clause → Line → List Clause → Type 0
IsDratLine P (Add c) Q = (Follows P c ⊎ IsRat P c) × (Q ≡ P ++ c ∷ [])
IsDratLine P (Delete c) Q = TakesOut P c Q ⊎ (Q ≡ P)

-- so it is for each of the lines in turn
abbrev pub DerivesByDrat : List Clause → List Line → List Clause → Type 0
DerivesByDrat P [] Q = P ≡ Q
DerivesByDrat P (line ∷ lines) Q = (R : List Clause) × IsDratLine P line R × DerivesByDrat R lines Q
