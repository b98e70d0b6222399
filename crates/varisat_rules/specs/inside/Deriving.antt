-- What clauses say that are read in turn.
use Rattle.std.specs.Prelude.{◌≡◌, ℕ, ◌⊎◌, length}
use Rattle.varisat_theory.specs.promises.Membership.{◌∈◌, ◌⊆◌}
use Rattle.varisat_theory.specs.promises.Literals.{Literal, Clause, Assignment, Satisfies}
use Rattle.varisat_theory.specs.promises.Propagation.{Follows}
use Rattle.varisat_database.specs.Databases.{DatabaseState, clause_at, IsLive}
use Rattle.varisat_rules.specs.declared.derive.Reading.{Reading}
use Rattle.varisat_rules.specs.declared.derive.Reading.TheVariants.{Silent, Implies, Conflict}
use Rattle.varisat_rules.specs.inside.States.{live_clauses}

-- what a clause says if these literals are false
abbrev pub Reads : Clause → Clause → Reading → Type 0
Reads c falses Silent = Unit {0}
Reads c falses (Implies l) = (l ∈ c) × ((m : Literal) → m ∈ c → (m ≡ l) ⊎ (m ∈ falses))
Reads c falses Conflict = c ⊆ falses

-- what the live clause at a place says if these literals are false; `but` is another place
abbrev pub ReadsAt : DatabaseState → ℕ → ℕ → Clause → Reading → Type 0
ReadsAt s k but falses Silent = Unit {0}
ReadsAt s k but falses (Implies l) =
    IsLive s k × (k ≡ but → ⊥) × (l ∈ clause_at s k)
    × ((m : Literal) → m ∈ clause_at s k → (m ≡ l) ⊎ (m ∈ falses))
ReadsAt s k but falses Conflict = IsLive s k × (k ≡ but → ⊥) × (clause_at s k ⊆ falses)

-- the assignment satisfies the live clauses at all other places
abbrev pub ModelsBut : Assignment → DatabaseState → ℕ → Type 0
ModelsBut a s but = (k : ℕ) → IsLive s k → (k ≡ but → ⊥) → Satisfies a (clause_at s k)

-- the clause follows from the live ones by unit propagation, and is true if those at all other places are
pub record IsDerived (s : DatabaseState) (but : ℕ) (c : Clause) : Type 0 where
  pub follows : length s.live ≡ length s.clauses → Follows (live_clauses s) c
  pub implied : (a : Assignment) → ModelsBut a s but → Satisfies a c

-- a live clause has the literal
abbrev pub IsInLive : DatabaseState → Literal → Type 0
IsInLive s l = (k : ℕ) × IsLive s k × (l ∈ clause_at s k)
