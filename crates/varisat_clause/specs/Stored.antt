-- The stored clauses, each at its place.
use Rattle.std.specs.Prelude.{◌≡◌, ℕ, ◌<◌, ◌≤◌, nat_eq, if◌then◌else◌, List, [], ◌∷◌, ◌++◌, length, map, take}
use Rattle.varisat_theory.specs.promises.Membership.{◌∈◌, SameSet}
use Rattle.varisat_theory.specs.promises.Literals.{Clause}
use Rattle.varisat_clause.specs.Headers.{Header, no_header}

-- a stored clause, at the place by which reasons and conflicts name it
pub record StoredClause : Type 0 where
  pub place : ℕ
  pub header : Header
  pub literals : Clause

-- the literals of each clause
abbrev pub literals_of : List StoredClause → List Clause
literals_of ks = map (λ k. k.literals) ks

-- a clause stands at the place
abbrev pub IsClauseRef : List StoredClause → ℕ → Type 0
IsClauseRef ks p = (k : StoredClause) × (k ∈ ks) × (k.place ≡ p)

-- what stands where there is no clause
abbrev pub no_clause : StoredClause
no_clause = record { place = 0; header = no_header; literals = [] }

-- the clause at the place
abbrev pub stored_at : List StoredClause → ℕ → StoredClause
stored_at [] p = no_clause
stored_at (k ∷ ks) p = if nat_eq k.place p then k else stored_at ks p

-- its literals
abbrev pub literals_at : List StoredClause → ℕ → Clause
literals_at ks p = (stored_at ks p).literals

-- its header
abbrev pub header_at : List StoredClause → ℕ → Header
header_at ks p = (stored_at ks p).header

-- a new clause at the place, whose header says how many literals it has
abbrev pub new_clause : ℕ → Header → Clause → StoredClause
new_clause p h c = record { place = p; header = record h { len = length c }; literals = c }

-- another clause in place of the one at the place
abbrev pub with_stored : List StoredClause → ℕ → StoredClause → List StoredClause
with_stored [] p j = []
with_stored (k ∷ ks) p j = if nat_eq k.place p then j ∷ ks else k ∷ with_stored ks p j

-- the clause at the place has other literals
abbrev pub with_literals : List StoredClause → ℕ → Clause → List StoredClause
with_literals [] p c = []
with_literals (k ∷ ks) p c = if nat_eq k.place p then record k { literals = c } ∷ ks else k ∷ with_literals ks p c

-- the clause at the place has another header
abbrev pub with_header : List StoredClause → ℕ → Header → List StoredClause
with_header ks p h = with_stored ks p (record (stored_at ks p) { header = h })

-- the clause at the place keeps only its first n literals
abbrev pub shortened : List StoredClause → ℕ → ℕ → List StoredClause
shortened ks p n =
    with_stored ks p
    (record { place = p; header = record (header_at ks p) { len = n }; literals = take n (literals_at ks p) })

-- each clause stands at a higher place than the one before it
abbrev pub AreRising : List StoredClause → Type 0
AreRising [] = Unit {0}
AreRising (k ∷ ks) = ((j : StoredClause) → j ∈ ks → k.place < j.place) × AreRising ks

-- each clause has three literals or more, and its header says how many
abbrev pub AreLong : List StoredClause → Type 0
AreLong ks = (k : StoredClause) → k ∈ ks → (3 ≤ length k.literals) × (k.header.len ≡ length k.literals)

-- a clause is kept behind the others, at a higher place
abbrev pub AppendsClause : List StoredClause → List StoredClause → StoredClause → Type 0
AppendsClause old new k = (new ≡ old ++ k ∷ []) × ((j : StoredClause) → j ∈ old → j.place < k.place)

-- The clauses keep their places and headers, and are equal as sets: the order of a clause's literals may change.
abbrev pub AreReordered : List StoredClause → List StoredClause → Type 0
AreReordered [] [] = Unit {0}
AreReordered [] (j ∷ js) = ⊥
AreReordered (k ∷ ks) [] = ⊥
AreReordered (k ∷ ks) (j ∷ js) =
    (j.place ≡ k.place) × (j.header ≡ k.header) × SameSet j.literals k.literals × AreReordered ks js
