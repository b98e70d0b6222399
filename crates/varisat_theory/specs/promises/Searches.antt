-- What a search keeps, and what that says of the clauses that a proof holds and of those that were accepted.
use Rattle.std.specs.Prelude.{◌≡◌, Bool, true, false, List, map, ◌++◌, ◌⊎◌}
use Rattle.varisat_theory.specs.promises.Membership.{◌∈◌, ◌⊆◌}
use Rattle.varisat_theory.specs.promises.Literals.{Literal, Clause, opposite, IsUnit}
use Rattle.varisat_theory.specs.promises.Held.{SameClauses}

-- A kept clause. One that is learned may be deleted at any time; the others stand for what was accepted.
pub record KeptClause : Type 0 where
  pub clause : Clause
  pub learned : Bool

-- What a proof can see of a search.
pub record Search : Type 0 where
  pub kept : List KeptClause
  -- the literals that are true at level 0, oldest first
  pub fixed : List Literal
  -- those of them that are held as unit clauses: they have no clause as their reason
  pub proved : List Literal

-- the kept clauses alone
abbrev pub clauses_of : List KeptClause → List Clause
clauses_of ks = map (λ k. k.clause) ks

-- a literal of the clause is another's opposite
abbrev pub IsTautology : Clause → Type 0
IsTautology c = (l : Literal) × (l ∈ c) × (opposite l ∈ c)

-- The clause says nothing more: it is a tautology, or a literal of it is true at level 0.
abbrev pub IsDischarged : Search → Clause → Type 0
IsDischarged s c = IsTautology c ⊎ ((l : Literal) × (l ∈ c) × (l ∈ s.fixed))

-- What the search says of the clauses that a proof holds: they are the kept ones, each as often as it is kept, and others that
-- are discharged, among them a unit clause for each proved literal.
pub record Fits (held : List Clause) (s : Search) : Type 0 where
  pub others : List Clause
  pub same : SameClauses held (clauses_of s.kept ++ others)
  pub settled : (c : Clause) → c ∈ others → IsDischarged s c
  pub units : (l : Literal) → l ∈ s.proved → (d : Clause) × (d ∈ others) × IsUnit l d

-- What the search says of the accepted clauses: each is discharged, or a kept one that is not learned is a part of it.
abbrev pub Covers : List Clause → Search → Type 0
Covers P s = (c : Clause) → c ∈ P →
    IsDischarged s c ⊎ ((k : KeptClause) × (k ∈ s.kept) × (k.learned ≡ false) × (k.clause ⊆ c))

-- Why an accepted clause is covered where each literal l of the search stands for `to l`, of which the accepted clauses speak,
-- and `known` says which of those are true for good.
pub data IsCoveredBySearch (to : Literal → Literal) (known : Literal → Bool) (s : Search) (c : Clause) : Type 0 where
  Tautology : IsTautology c → IsCoveredBySearch to known s c
  KnownTrue : (l : Literal) → l ∈ c → known l ≡ true → IsCoveredBySearch to known s c
  FixedTrue : (l : Literal) → l ∈ s.fixed → to l ∈ c → IsCoveredBySearch to known s c
  -- a kept clause that is not learned is a part of it
  Kept : (k : KeptClause) → k ∈ s.kept → k.learned ≡ false → ((l : Literal) → l ∈ k.clause → to l ∈ c) →
      IsCoveredBySearch to known s c

-- `Covers` under other names
abbrev pub CoversBy : (Literal → Literal) → (Literal → Bool) → List Clause → Search → Type 0
CoversBy to known P s = (c : Clause) → c ∈ P → IsCoveredBySearch to known s c

-- the literal is true at level 0, or one of a kept clause
abbrev pub IsLiteralOf : Search → Literal → Type 0
IsLiteralOf s l = (l ∈ s.fixed) ⊎ ((k : KeptClause) × (k ∈ s.kept) × (l ∈ k.clause))
