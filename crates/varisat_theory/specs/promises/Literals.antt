-- Literals, clauses, and the assignments that satisfy them.
use Rattle.std.specs.Prelude.{◌≡◌, ℕ, ◌+◌, ◌-◌, ◌*◌, ◌/◌, ◌%◌, Bool, true, false, not, nat_eq, if◌then◌else◌, List, [], ◌∷◌}
use Rattle.varisat_theory.specs.promises.Membership.{◌∈◌, ◌⊆◌}

-- A variable is a number from 0. A literal is its code: 2v is the variable v itself, and 2v + 1 its opposite.
abbrev pub Literal : Type 0
Literal = ℕ

-- A clause is a list of literals, and is read as their set.
abbrev pub Clause : Type 0
Clause = List ℕ

-- An assignment says of each variable whether it is true.
abbrev pub Assignment : Type 0
Assignment = ℕ → Bool

-- the variable of a literal
abbrev pub variable_of : Literal → ℕ
variable_of l = l / 2

-- the literal that is true just where the variable has the value
abbrev pub literal_of : ℕ → Bool → Literal
literal_of v true = 2 * v
literal_of v false = 2 * v + 1

-- the literal of the same variable that is true where this one is false
unfoldable pub opposite : Literal → Literal
opposite l = l + 1 - 2 * (l % 2)

-- each literal's opposite
abbrev pub opposites : List Literal → List Literal
opposites [] = []
opposites (l ∷ ls) = opposite l ∷ opposites ls

-- what the assignment makes of the literal
unfoldable pub value : Assignment → Literal → Bool
value a l = if nat_eq (l % 2) 0 then a (l / 2) else not (a (l / 2))

-- a literal of the clause is true
abbrev pub Satisfies : Assignment → Clause → Type 0
Satisfies a c = (l : Literal) × (l ∈ c) × (value a l ≡ true)

-- each clause has a true literal
abbrev pub SatisfiesAll : Assignment → List Clause → Type 0
SatisfiesAll a P = (c : Clause) → c ∈ P → Satisfies a c

-- each literal is true
abbrev pub MakesTrue : Assignment → List Literal → Type 0
MakesTrue a ls = (l : Literal) → l ∈ ls → value a l ≡ true

-- some assignment satisfies the clauses
abbrev pub IsSatisfiable : List Clause → Type 0
IsSatisfiable P = (a : Assignment) × SatisfiesAll a P

-- some assignment satisfies the clauses and makes the literals true
abbrev pub IsSatisfiableWith : List Clause → List Literal → Type 0
IsSatisfiableWith P ls = (a : Assignment) × SatisfiesAll a P × MakesTrue a ls

-- every assignment that satisfies the clauses satisfies the clause
abbrev pub Entails : List Clause → Clause → Type 0
Entails P c = (a : Assignment) → SatisfiesAll a P → Satisfies a c

-- as a set the clause is the literal alone
abbrev pub IsUnit : Literal → Clause → Type 0
IsUnit l c = (l ∈ c) × ((m : Literal) → m ∈ c → m ≡ l)

-- some of the assumptions, which no assignment makes true together with the clauses
abbrev pub IsFailedCore : List Clause → List Literal → List Literal → Type 0
IsFailedCore P assumptions core = (core ⊆ assumptions) × (IsSatisfiableWith P core → ⊥)
