-- What clauses say under literals that are known to be true, and what unit propagation makes of it.
use Rattle.std.specs.Prelude.{◌≡◌, List, [], ◌∷◌, ◌⊎◌}
use Rattle.varisat_theory.specs.promises.Membership.{◌∈◌, ◌⊆◌}
use Rattle.varisat_theory.specs.promises.Literals.{Literal, Clause, opposite, opposites}

-- each literal of the clause is false
abbrev pub IsFalse : List Literal → Clause → Type 0
IsFalse known c = (m : Literal) → m ∈ c → opposite m ∈ known

-- each literal of the clause but l is false
abbrev pub LeavesOnly : List Literal → Clause → Literal → Type 0
LeavesOnly known c l = (m : Literal) → m ∈ c → (m ≡ l) ⊎ (opposite m ∈ known)

-- some clause is false
abbrev pub HasFalse : List Clause → List Literal → Type 0
HasFalse P known = (c : Clause) × (c ∈ P) × IsFalse known c

-- a literal and its opposite are known
abbrev pub HasClash : List Literal → Type 0
HasClash known = (l : Literal) × (l ∈ known) × (opposite l ∈ known)

-- One use of a clause in a propagation: the literal that it leaves becomes known.
pub record Use : Type 0 where
  pub clause : Clause
  pub left : Literal

-- what is known after the uses
abbrev pub known_after : List Literal → List Use → List Literal
known_after known [] = known
known_after known (u ∷ us) = known_after (u.left ∷ known) us

-- A propagation over P: each clause in turn is one of P, and all its literals but one are false under what is known before it.
abbrev pub IsPropagation : List Clause → List Literal → List Use → Type 0
IsPropagation P known [] = Unit {0}
IsPropagation P known (u ∷ us) =
    (u.clause ∈ P) × (u.left ∈ u.clause) × LeavesOnly known u.clause u.left × IsPropagation P (u.left ∷ known) us

-- The base has a literal and its opposite, or after some propagation from it a clause is false.
abbrev pub PropagatesToConflict : List Clause → List Literal → Type 0
PropagatesToConflict P base =
    HasClash base ⊎ ((us : List Use) × IsPropagation P base us × HasFalse P (known_after base us))

-- Unit propagation over P from the known literals comes to a conflict: the same as `PropagatesToConflict`, by rules.
pub data Conflicts (P : List Clause) : List Literal → Type 0 where
  -- a literal and its opposite are known
  Clash : {known : List Literal} (l : Literal) → l ∈ known → opposite l ∈ known → Conflicts P known
  -- a clause is false
  FalseClause : {known : List Literal} (c : Clause) → c ∈ P → IsFalse known c → Conflicts P known
  -- a clause leaves one literal, which becomes known
  Propagate : {known : List Literal} (c : Clause) (l : Literal) → c ∈ P → l ∈ c → LeavesOnly known c l →
      Conflicts P (l ∷ known) → Conflicts P known

-- propagation conflicts once all literals of the clause are taken as false
abbrev pub Follows : List Clause → Clause → Type 0
Follows P c = Conflicts P (opposites c)

-- each clause of P has one of Q as a part
abbrev pub IsCoveredBy : List Clause → List Clause → Type 0
IsCoveredBy P Q = (c : Clause) → c ∈ P → (d : Clause) × (d ∈ Q) × (d ⊆ c)

-- no clause is false, and a literal that a clause leaves is known
pub record IsComplete (P : List Clause) (known : List Literal) : Type 0 where
  pub no_false : HasFalse P known → ⊥
  pub closed : (c : Clause) (l : Literal) → c ∈ P → l ∈ c → LeavesOnly known c l → l ∈ known

-- propagation has come to its end, and nothing clashes
pub record IsSaturated (P : List Clause) (known : List Literal) : Type 0 where
  pub no_clash : HasClash known → ⊥
  pub complete : IsComplete P known
