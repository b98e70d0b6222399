-- What the parts of a step, whole steps and loading a clause write and leave.
use Rattle.std.specs.Prelude.{◌≡◌, ◌≢◌, ℕ, List, [], ◌∷◌, ◌++◌, ◌⊎◌}
use Rattle.varisat_theory.specs.promises.Membership.{◌∈◌}
use Rattle.varisat_theory.specs.promises.Literals.{Literal, Clause, Assignment, opposite, IsUnit, SatisfiesAll}
use Rattle.varisat_theory.specs.promises.Propagation.{Conflicts}
use Rattle.varisat_theory.specs.promises.Derivations.{Line, SpeakOf}
use Rattle.varisat_theory.specs.promises.Counted.{DerivesBy, AddsNew, AddsManyNew}
use Rattle.varisat_theory.specs.promises.Searches.{Search, Fits, Covers, IsLiteralOf}

-- A search's verdict, with the assignment or the core that was found.
pub data SearchOutcome : Type 0 where
  Unknown : SearchOutcome
  Sat : Assignment → SearchOutcome
  Unsat : SearchOutcome
  UnsatUnder : List Literal → SearchOutcome

-- What a search with the verdict says of the clauses that a proof holds: under Unsat they conflict, and else they fit it.
abbrev pub Holds : List Clause → Search → SearchOutcome → Type 0
Holds held s Unknown = Fits held s
Holds held s (Sat found) = Fits held s
Holds held s Unsat = Conflicts held []
Holds held s (UnsatUnder core) = Fits held s × Conflicts held core

-- What it says of the accepted clauses.
abbrev pub Answers : List Clause → Search → SearchOutcome → Type 0
Answers P s Unknown = Covers P s
Answers P s (Sat found) = Covers P s × SatisfiesAll found P
Answers P s Unsat = Unit {0}
Answers P s (UnsatUnder core) = Covers P s

-- The lines lead from whatever clauses fit s to such as fit t, where at most n of the added ones count, and what s covers, t
-- covers. The lines speak of literals of s alone, and t has no others.
pub record Proves (n : ℕ) (s t : Search) (lines : List Line) : Type 0 where
  pub holds : (held : List Clause) → Fits held s → (after : List Clause) × DerivesBy n held lines after × Fits after t
  pub covers : (P : List Clause) → Covers P s → Covers P t
  pub speaks : SpeakOf (IsLiteralOf s) lines
  pub within : (l : Literal) → IsLiteralOf t l → IsLiteralOf s l

-- What a step with the lines gives, by the verdict after it: at most one of the added clauses counts, and under Unknown one
-- is new and stays. The lines speak of literals of s alone, and t has no others. Under Unsat nothing more is asked of t.
pub record Steps (s t : Search) (v : SearchOutcome) (lines : List Line) : Type 0 where
  pub holds : (held : List Clause) → Fits held s →
      (after : List Clause) × DerivesBy 1 held lines after × Holds after t v × (v ≡ Unknown → AddsNew held lines)
  pub answers : (P : List Clause) → Covers P s → Answers P t v
  pub speaks : SpeakOf (IsLiteralOf s) lines
  pub within : v ≢ Unsat → (l : Literal) → IsLiteralOf t l → IsLiteralOf s l

-- What k steps of a call give together: at most k of the added clauses count, and where the last verdict is Unknown the lines are
-- k parts in turn, each of which adds a new one that stays to its end. Of the literals the same holds.
pub record MakesSteps (k : ℕ) (s t : Search) (v : SearchOutcome) (lines : List Line) : Type 0 where
  pub holds : (held : List Clause) → Fits held s →
      (after : List Clause) × DerivesBy k held lines after × Holds after t v
  pub answers : (P : List Clause) → Covers P s → Answers P t v
  pub adds : (held : List Clause) → Fits held s → v ≡ Unknown → AddsManyNew k held lines
  pub speaks : SpeakOf (IsLiteralOf s) lines
  pub within : v ≢ Unsat → (l : Literal) → IsLiteralOf t l → IsLiteralOf s l

-- the clause is empty, or as a set one literal whose opposite is true at level 0
abbrev pub IsContradicted : Search → Clause → Type 0
IsContradicted s c = (c ≡ []) ⊎ ((l : Literal) × IsUnit l c × (opposite l ∈ s.fixed))

-- the literal is one of the search or of the clause
abbrev pub IsLiteralOfEither : Search → Clause → Literal → Type 0
IsLiteralOfEither s c l = IsLiteralOf s l ⊎ (l ∈ c)

-- What loading a clause gives, where the verdict was not Unsat: it joins what is held, and then come the lines, none of which
-- counts. Unsat comes just where it is contradicted. The lines speak of literals of s and of the clause alone, and t has no
-- others.
pub record Loads (s t : Search) (c : Clause) (v : SearchOutcome) (lines : List Line) : Type 0 where
  pub holds : (held : List Clause) → Fits held s →
      (after : List Clause) × DerivesBy 0 (held ++ c ∷ []) lines after × Holds after t v
  pub answers : (P : List Clause) → Covers P s → Answers (P ++ c ∷ []) t v
  pub verdict : (IsContradicted s c × (v ≡ Unsat)) ⊎ ((IsContradicted s c → ⊥) × (v ≡ Unknown))
  pub speaks : SpeakOf (IsLiteralOfEither s c) lines
  pub within : v ≢ Unsat → (l : Literal) → IsLiteralOf t l → IsLiteralOfEither s c l

-- What a solver with accepted clauses P keeps of the clauses that a proof holds.
pub record AccountsFor (P held : List Clause) (s : Search) (v : SearchOutcome) : Type 0 where
  pub implied : (a : Assignment) → SatisfiesAll a P → SatisfiesAll a held
  pub holds : Holds held s v
  pub answers : Answers P s v
