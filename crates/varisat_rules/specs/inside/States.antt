-- What a database has to do with the clauses that it was made of.
use Rattle.std.specs.Prelude.{◌≡◌, ℕ, ◌/◌, ◌<◌, ◌≤◌, Bool, true, false, List, [], ◌∷◌, ◌++◌, ◌⊎◌, length, take, slice_index_or}
use Rattle.varisat_theory.specs.promises.Membership.{◌∈◌}
use Rattle.varisat_theory.specs.promises.Literals.{Literal, Clause, Assignment, opposite, variable_of, value, Satisfies, SatisfiesAll}
use Rattle.varisat_theory.specs.promises.Derivations.{SpeakOf}
use Rattle.varisat_formula.specs.promises.Values.{assignment_of}
use Rattle.varisat_rules.specs.promises.Stacks.{extended, avoids}
use Rattle.varisat_database.specs.Databases.{DatabaseState, clause_at, IsLive}
use Rattle.varisat_rules.specs.promises.Leading.{LeadsTo, IsNamedBy, AreNamedBy, HasVariablesOf}

-- the literal's variable may be resolved away
abbrev pub IsThawed : DatabaseState → Literal → Type 0
IsThawed s l = slice_index_or s.frozen (l / 2) false ≡ false

-- a clause, live or not, has the literal or its opposite
abbrev pub Occurs : DatabaseState → Literal → Type 0
Occurs s l = (k : ℕ) × ((l ∈ clause_at s k) ⊎ (opposite l ∈ clause_at s k))

-- the clauses that are flagged, in order
abbrev pub flagged : List Bool → List Clause → List Clause
flagged [] cs = []
flagged (b ∷ bs) [] = []
flagged (true ∷ bs) (c ∷ cs) = c ∷ flagged bs cs
flagged (false ∷ bs) (c ∷ cs) = flagged bs cs

-- the live clauses
abbrev pub live_clauses : DatabaseState → List Clause
live_clauses s = flagged s.live s.clauses

-- each live clause has a true literal
abbrev pub Models : Assignment → DatabaseState → Type 0
Models a s = (k : ℕ) → IsLive s k → Satisfies a (clause_at s k)

-- What the state says of the clauses P that it was made of.
pub record DerivesFrom (P : List Clause) (s : DatabaseState) : Type 0 where
  -- each clause is live or not
  pub even : length s.live ≡ length s.clauses
  -- what satisfies them satisfies what is live
  pub keeps : (a : Assignment) → SatisfiesAll a P → Models a s
  -- values that satisfy what is live are extended to ones that satisfy them
  pub extends : (vs : List Bool) → s.var_count ≤ length vs → Models (assignment_of vs) s →
      SatisfiesAll (assignment_of (extended s.stack vs)) P
  -- the lines lead from them to what is live
  pub leads : LeadsTo P s.lines (live_clauses s)
  -- no literal is new
  pub named : AreNamedBy P s.clauses
  pub spoken : SpeakOf (IsNamedBy P) s.lines
  -- no variable of the stack is new
  pub saved : HasVariablesOf P s.stack
  -- what satisfies them satisfies each clause, live or not, and the stack if clauses of both signs are saved
  pub entailed : (a : Assignment) → SatisfiesAll a P → SatisfiesAll a s.clauses
  pub implied : s.saves_both ≡ true → (a : Assignment) → SatisfiesAll a P → SatisfiesAll a s.stack
  -- the stack changes no frozen variable
  pub thawed : (c : Clause) → c ∈ s.stack → avoids s.frozen c ≡ true

-- no live clause has the variable
pub record IsGone (s : DatabaseState) (v : ℕ) : Type 0 where
  pub even : length s.live ≡ length s.clauses
  pub none : (k : ℕ) (l : Literal) → IsLive s k → l ∈ clause_at s k → variable_of l ≡ v → ⊥

-- so it is of the variable of a clause's first literal
abbrev pub LeadIsGone : DatabaseState → Clause → Type 0
LeadIsGone s [] = Unit {0}
LeadIsGone s (l ∷ c) = IsGone s (variable_of l)

-- so it is of each clause of the stack, which then changes no variable of a live clause
abbrev pub IsSettled : DatabaseState → Type 0
IsSettled s = (c : Clause) → c ∈ s.stack → LeadIsGone s c

-- What a state becomes says what it said, and has its clauses first.
pub record Continues (s t : DatabaseState) : Type 0 where
  pub more : (rest : List Clause) × (t.clauses ≡ s.clauses ++ rest)
  pub count : t.var_count ≡ s.var_count
  pub frozen : t.frozen ≡ s.frozen
  pub both : t.saves_both ≡ s.saves_both
  pub reduces : (P : List Clause) → DerivesFrom P s → DerivesFrom P t
  -- no variable comes back
  pub gone : (v : ℕ) → IsGone s v → IsGone t v

-- The same between two steps of a simplification: the variables of what was saved are gone.
pub record IsLaterState (s t : DatabaseState) : Type 0 where
  pub continues : Continues s t
  pub settles : IsSettled s → IsSettled t

-- what was saved begins with the literal
abbrev pub SavesLed : DatabaseState → DatabaseState → Literal → Type 0
SavesLed s t l = (c : Clause) → c ∈ t.stack → (c ∈ s.stack) ⊎ ((rest : Clause) × (c ≡ l ∷ rest))

-- the assignment satisfies the live clauses without the literal and its opposite
abbrev pub ModelsRest : Literal → Assignment → DatabaseState → Type 0
ModelsRest l a s =
    (k : ℕ) → IsLive s k → (l ∈ clause_at s k → ⊥) → (opposite l ∈ clause_at s k → ⊥) → Satisfies a (clause_at s k)

-- another literal of the clause is true
abbrev pub SatisfiesBut : Literal → Assignment → Clause → Type 0
SatisfiesBut l a c = (m : Literal) × (m ∈ c) × (m ≡ l → ⊥) × (value a m ≡ true)

-- the places are those of the live clauses with the literal, none of which has the opposite too
pub record Collects (s : DatabaseState) (l : Literal) (places : List ℕ) : Type 0 where
  pub even : length s.live ≡ length s.clauses
  pub all : (k : ℕ) → IsLive s k → l ∈ clause_at s k → k ∈ places
  pub live : (k : ℕ) → k ∈ places → IsLive s k
  pub with : (k : ℕ) → k ∈ places → l ∈ clause_at s k
  pub without : (k : ℕ) → k ∈ places → opposite l ∈ clause_at s k → ⊥

-- what satisfies the rest satisfies one of the two clauses by another literal
abbrev pub IsPairResolved : DatabaseState → Literal → ℕ → ℕ → Type 0
IsPairResolved s l i j =
    (a : Assignment) → ModelsRest l a s → SatisfiesBut l a (clause_at s i) ⊎ SatisfiesBut (opposite l) a (clause_at s j)

-- The clauses with the literal are resolved with those with its opposite: all pairs of the first x, and the first y of the next.
pub record ResolvesPairs (s t : DatabaseState) (l : Literal) (w g : List ℕ) (x y : ℕ) : Type 0 where
  pub becomes : IsLaterState s t
  pub ones : Collects t l w
  pub others : Collects t (opposite l) g
  pub done : (i j : ℕ) → i ∈ take x w → j ∈ g → IsPairResolved t l i j
  pub begun : (j : ℕ) → j ∈ take y g → IsPairResolved t l (slice_index_or w x 0) j

-- The clauses with the literal are saved and removed, up to the one at index x.
pub record SavesClauses (s t : DatabaseState) (l : Literal) (w g : List ℕ) (x : ℕ) : Type 0 where
  pub becomes : Continues s t
  pub led : SavesLed s t l
  pub others : Collects t (opposite l) g
  pub ones : (k : ℕ) → IsLive t k → l ∈ clause_at t k → (y : ℕ) × (x ≤ y) × (y < length w) × (slice_index_or w y 0 ≡ k)
  pub each : (k : ℕ) → k ∈ w → l ∈ clause_at t k
  pub apart : (k : ℕ) → k ∈ w → opposite l ∈ clause_at t k → ⊥
  pub pairs : (i j : ℕ) → i ∈ w → j ∈ g → IsPairResolved t l i j

-- The literal was saved, and of the live clauses only such with it were removed, as far as the places were read.
pub record Drops (s t : DatabaseState) (m : Literal) (places : List ℕ) (x : ℕ) : Type 0 where
  pub count : t.var_count ≡ s.var_count
  pub frozen : t.frozen ≡ s.frozen
  pub both : t.saves_both ≡ s.saves_both
  pub same : t.clauses ≡ s.clauses
  pub stack : t.stack ≡ s.stack ++ (m ∷ []) ∷ []
  pub even : length t.live ≡ length s.live
  pub fewer : (k : ℕ) → IsLive t k → IsLive s k
  pub kept : (k : ℕ) → IsLive s k → (m ∈ clause_at s k → ⊥) → IsLive t k
  pub dropped : (k : ℕ) → k ∈ take x places → IsLive t k → ⊥
  pub tells : (P : List Clause) → DerivesFrom P s → LeadsTo P t.lines (live_clauses t) × SpeakOf (IsNamedBy P) t.lines
