-- Where the lines of a proof lead, and which literals they have.
use Rattle.std.specs.Prelude.{◌≡◌, ℕ, List}
use Rattle.varisat_theory.specs.promises.Membership.{◌∈◌}
use Rattle.varisat_theory.specs.promises.Literals.{Literal, Clause, variable_of}
use Rattle.varisat_theory.specs.promises.Derivations.{Line, Derives}
use Rattle.varisat_theory.specs.promises.Held.{SameClauses}

-- The lines are a derivation from the clauses P, after which just the clauses Q are present.
pub record LeadsTo (P : List Clause) (lines : List Line) (Q : List Clause) : Type 0 where
  pub present : List Clause
  pub steps : Derives P lines present
  pub same : SameClauses Q present

-- a clause of P has the literal
abbrev pub IsNamedBy : List Clause → Literal → Type 0
IsNamedBy P l = (d : Clause) × (d ∈ P) × (l ∈ d)

-- so it is of each literal of the clauses Q
abbrev pub AreNamedBy : List Clause → List Clause → Type 0
AreNamedBy P Q = (c : Clause) (l : Literal) → c ∈ Q → l ∈ c → IsNamedBy P l

-- a clause of P has a literal of the variable
abbrev pub HasVariable : List Clause → ℕ → Type 0
HasVariable P v = (l : Literal) × IsNamedBy P l × (variable_of l ≡ v)

-- so it is of the variable of each literal of the clauses Q
abbrev pub HasVariablesOf : List Clause → List Clause → Type 0
HasVariablesOf P Q = (c : Clause) (l : Literal) → c ∈ Q → l ∈ c → HasVariable P (variable_of l)
