-- What is found of literals and clauses.
use Rattle.std.specs.Prelude.{◌≡◌, ℕ, ◌⊎◌, [], ◌∷◌}
use Rattle.varisat_theory.specs.promises.Membership.{◌∈◌, ◌⊆◌}
use Rattle.varisat_theory.specs.promises.Literals.{Literal, Clause, opposite, variable_of}
use Rattle.varisat_rules.specs.declared.resolve.Sign.{Sign}
use Rattle.varisat_rules.specs.declared.resolve.Sign.TheVariants.{Absent, Same, Opposite}
use Rattle.varisat_rules.specs.declared.resolve.Relation.{Relation}
use Rattle.varisat_rules.specs.declared.resolve.Relation.TheVariants.{Nothing, Subsumes, Strengthens}
use Rattle.varisat_database.specs.Databases.{DatabaseState, clause_at, IsLive}

-- no literal of the clause has the literal's variable
abbrev pub IsOfOthers : Clause → Literal → Type 0
IsOfOthers c l = (m : Literal) → m ∈ c → variable_of m ≡ variable_of l → ⊥

-- the literal occurs so in the clause
abbrev pub OccursAs : Clause → Literal → Sign → Type 0
OccursAs c l Absent = IsOfOthers c l
OccursAs c l Same = l ∈ c
OccursAs c l Opposite = opposite l ∈ c

-- what the first clause makes of the second
abbrev pub Relates : Clause → Clause → Relation → Type 0
Relates c d Nothing = Unit {0}
Relates c d Subsumes = c ⊆ d
Relates c d (Strengthens l) = (l ∈ c) × ((m : Literal) → m ∈ c → (m ≡ l) ⊎ ((m ∈ d) × (m ≡ opposite l → ⊥)))

-- the same of two places, which are not one
abbrev pub Compares : DatabaseState → ℕ → ℕ → Relation → Type 0
Compares s j i Nothing = Unit {0}
Compares s j i Subsumes = IsLive s j × (j ≡ i → ⊥) × (clause_at s j ⊆ clause_at s i)
Compares s j i (Strengthens l) =
    IsLive s j × IsLive s i × (l ∈ clause_at s j)
    × ((m : Literal) → m ∈ clause_at s j → (m ≡ l) ⊎ ((m ∈ clause_at s i) × (m ≡ opposite l → ⊥)))

-- the clause without the literal
pub record LeavesOut (c : Clause) (l : Literal) (e : Clause) : Type 0 where
  pub part : (m : Literal) → m ∈ e → m ∈ c
  pub apart : (m : Literal) → m ∈ e → m ≡ l → ⊥
  pub whole : (m : Literal) → m ∈ c → (m ≡ l) ⊎ (m ∈ e)

-- the resolvent of a clause with the literal and one with its opposite
pub record Resolves (c d : Clause) (l : Literal) (e : Clause) : Type 0 where
  pub from : (m : Literal) → m ∈ e → ((m ∈ c) × (m ≡ l → ⊥)) ⊎ ((m ∈ d) × (m ≡ opposite l → ⊥))
  pub left : (m : Literal) → m ∈ c → (m ≡ l) ⊎ ((m ≡ opposite l) ⊎ (m ∈ e))
  pub right : (m : Literal) → m ∈ d → (m ≡ opposite l) ⊎ (m ∈ e)

-- a live clause has the literal alone
abbrev pub IsLiveUnit : DatabaseState → Literal → Type 0
IsLiveUnit s l = (j : ℕ) × IsLive s j × (clause_at s j ≡ l ∷ [])

-- the clause without literals whose opposites are fixed
pub record LeavesOutFalse (s : DatabaseState) (c e : Clause) : Type 0 where
  pub part : (m : Literal) → m ∈ e → m ∈ c
  pub whole : (m : Literal) → m ∈ c → (m ∈ e) ⊎ IsLiveUnit s (opposite m)

-- the clauses have another literal and its opposite
abbrev pub Clashes : Clause → Clause → Literal → Type 0
Clashes c d l = (m : Literal) × (m ∈ c) × (m ≡ l → ⊥) × (opposite m ∈ d)
