-- Formulas in conjunctive normal form.
use Rattle.std.specs.Prelude.{◌≡◌, ℕ, ◌+◌, ◌/◌, ◌^◌, ◌<◌, ◌≤◌, max, List, [], ◌∷◌, ◌++◌, length, take, drop, Result, Ok, Err}
use Rattle.std.specs.List.{FoldsTo}
use Rattle.varisat_theory.specs.promises.Literals.{Literal, Clause}

-- a count of variables, and clauses in order
pub record Formula : Type 0 where
  pub var_count : ℕ
  pub clauses : List Clause

-- the empty formula
abbrev pub no_clauses : Formula
no_clauses = record { var_count = 0; clauses = [] }

-- the least count of variables that the literals have
abbrev pub variables_of : List Literal → ℕ
variables_of [] = 0
variables_of (l ∷ ls) = max (l / 2 + 1) (variables_of ls)

-- one more clause
abbrev pub with_one_more : Formula → Clause → Formula
with_one_more f c = record { var_count = max f.var_count (variables_of c); clauses = f.clauses ++ c ∷ [] }

-- each of the clauses in turn
abbrev pub with_more : Formula → List Clause → Formula
with_more f [] = f
with_more f (c ∷ cs) = with_more (with_one_more f c) cs

-- these variables were made in turn, where it is known how one is
abbrev pub MakesVars : {F E : Type 0} → (F → Result ℕ E → F → Type 0) → F → List ℕ → F → Type 0
MakesVars makes_var old vs new = FoldsTo (λ s v t. makes_var s (Ok v) t) old vs new

-- of n variables one was refused, with this error, once those before it were made
abbrev pub RefusesOneOf : {F E : Type 0} → ℕ → (F → Result ℕ E → F → Type 0) → F → E → F → Type 0
RefusesOneOf {F} n makes_var old e new =
    (vs : List ℕ) × (s : F) × MakesVars makes_var old vs s × (length vs < n) × makes_var s (Err e) new

-- the literals' variables are below the count
abbrev pub AllBelow : ℕ → List Literal → Type 0
AllBelow count [] = Unit {0}
AllBelow count (l ∷ ls) = (l / 2 < count) × AllBelow count ls

-- so are those of each clause
abbrev pub AreBelow : ℕ → List Clause → Type 0
AreBelow count [] = Unit {0}
AreBelow count (c ∷ cs) = AllBelow count c × AreBelow count cs

-- the literals, cut into clauses of these lengths
abbrev pub cut : List ℕ → List Literal → List Clause
cut [] ls = []
cut (n ∷ ns) ls = take n ls ∷ cut ns (drop n ls)

-- the lengths use up the literals
abbrev pub UseUp : List ℕ → List Literal → Type 0
UseUp [] ls = ls ≡ []
UseUp (n ∷ ns) ls = (n ≤ length ls) × UseUp ns (drop n ls)

-- what is true of the buffers of a formula
pub record BuffersFit (count : ℕ) (lengths : List ℕ) (literals : List Literal) : Type 0 where
  pub used : UseUp lengths literals
  pub below : AllBelow count literals
  pub small : count ≤ 2 ^ 31
