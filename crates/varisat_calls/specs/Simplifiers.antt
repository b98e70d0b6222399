-- What a simplifier has, and what the number of a call's answer says. It is 0, 3 where memory ran out, 7 where a
-- variable is above the limit that a solver has, 14 where a number is none of a literal or a variable, 15 before the
-- clauses are simplified, and 19 behind that. A call that is refused changes nothing; where memory ran out for a list,
-- another one may be there.
use Rattle.std.specs.Prelude.{◌≡◌, ◌≢◌, ◌⊎◌, ℕ, ◌≤◌, ◌<◌, ◌^◌, ℤ, pos, ◌<ℤ◌, ◌≤ℤ◌, Bool, true, false, Option, Some, None, IsSome, List, [], map, slice_index_or}
use Rattle.varisat_theory.specs.promises.Membership.{◌∈◌}
use Rattle.varisat_theory.specs.promises.Literals.{Literal, Clause, SatisfiesAll, opposite}
use Rattle.varisat_theory.specs.promises.Derivations.{Line}
use Rattle.varisat_literals.specs.promises.Numbers.{literal_numbered, variable_numbered, variable_limit}
use Rattle.varisat_formula.specs.promises.Formulas.{Formula, no_clauses, with_one_more, AreBelow}
use Rattle.varisat_formula.specs.promises.Values.{assignment_of, model_values}
use Rattle.varisat_rules.specs.promises.Stacks.{extended, KeepsFrozen}
use Rattle.varisat_theory.specs.promises.Held.{SameClauses}
use Rattle.varisat_simplify.specs.promises.Simplified.{IsMadeOf, IsShorter}
use Rattle.varisat_calls.specs.Lists.{AreWithinLimit, clause_numbers, value_numbers}

-- the clauses that are left, and the stack that extends their models
pub record SimplifiedFormula : Type 0 where
  pub left : Formula
  pub stack : List Clause

-- The clauses that were given, flags of the frozen variables, what was made of them once they are simplified, and the
-- list that was asked for last.
pub record Simplifier : Type 0 where
  pub given : Formula
  pub frozen : List Bool
  pub made : Option SimplifiedFormula
  pub list : List ℤ

-- a simplifier that was given nothing
abbrev pub nothing_given : Simplifier
nothing_given = record { given = no_clauses; frozen = []; made = None; list = [] }

-- what was made: nothing before there is a stack
abbrev pub made_of : Option (List Clause) → Formula → Option SimplifiedFormula
made_of None f = None
made_of (Some stack) f = Some (record { left = f; stack = stack })

-- what was given: before there is a stack it is at hand, and then only its count of variables is
abbrev pub given_of : Option (List Clause) → Formula → ℕ → List Clause → Formula
given_of None f n cs = f
given_of (Some stack) f n cs = record { var_count = n; clauses = cs }

-- the clauses Q are those of P, or have at least one of 20 literals fewer, rounded down
abbrev pub AreNoLonger : List Clause → List Clause → Type 0
AreNoLonger Q P = SameClauses Q P ⊎ IsShorter Q P

-- What was made of the formula while these variables were frozen: what satisfies it satisfies what is left, and values
-- that satisfy what is left are extended to ones that satisfy it, where no frozen variable has another value, nor one
-- of the clauses that are left. Its clauses are the same, or at least one of 20 literals fewer is left, rounded down.
pub record SimplifiesFormula (g : Formula) (frozen : List Bool) (m : SimplifiedFormula) : Type 0 where
  pub made : (lines : List Line) × IsMadeOf g m.left m.stack lines
  pub keeps : KeepsFrozen frozen m.stack
  pub shorter : AreNoLonger m.left.clauses g.clauses
  pub below : AreBelow g.var_count g.clauses
  pub small : g.var_count ≤ 2 ^ 31

-- nothing changes, for the reason that has this number
abbrev pub IsRefusedFor : ℕ → Simplifier → ℕ → Simplifier → Type 0
IsRefusedFor why g n h = (n ≡ why) × (h ≡ g)

-- The clause of the numbers is given.
pub data Adds (numbers : List ℤ) (g : Simplifier) (n : ℕ) (h : Simplifier) : Type 0 where
  Given : (pos 0 ∈ numbers → ⊥) → AreWithinLimit (map literal_numbered numbers) → g.made ≡ None → n ≡ 0 →
      h ≡ record g { given = with_one_more g.given (map literal_numbered numbers) } → Adds numbers g n h
  Zero : pos 0 ∈ numbers → IsRefusedFor 14 g n h → Adds numbers g n h
  TooHigh : (AreWithinLimit (map literal_numbered numbers) → ⊥) → IsRefusedFor 7 g n h → Adds numbers g n h
  TooLate : IsSome g.made → IsRefusedFor 19 g n h → Adds numbers g n h
  NoRoom : g.made ≡ None → IsRefusedFor 3 g n h → Adds numbers g n h

-- the variable is flagged, and no other one changes
pub record SetsFlag (old : List Bool) (v : ℕ) (new : List Bool) : Type 0 where
  pub flagged : slice_index_or new v false ≡ true
  pub others : (k : ℕ) → k ≢ v → slice_index_or new k false ≡ slice_index_or old k false

-- The variable is frozen.
pub data Freezes (variable : ℤ) (g : Simplifier) (n : ℕ) (h : Simplifier) : Type 0 where
  Frozen : pos 1 ≤ℤ variable → variable_numbered variable < variable_limit → g.made ≡ None → n ≡ 0 →
      SetsFlag g.frozen (variable_numbered variable) h.frozen → h ≡ record g { frozen = h.frozen } →
      Freezes variable g n h
  Wrong : variable <ℤ pos 1 → IsRefusedFor 14 g n h → Freezes variable g n h
  TooHigh : variable_limit ≤ variable_numbered variable → IsRefusedFor 7 g n h → Freezes variable g n h
  TooLate : IsSome g.made → IsRefusedFor 19 g n h → Freezes variable g n h
  NoRoom : pos 1 ≤ℤ variable → variable_numbered variable < variable_limit → g.made ≡ None → IsRefusedFor 3 g n h →
      Freezes variable g n h

-- The clauses are simplified, once.
pub data Simplifies (g : Simplifier) (n : ℕ) (h : Simplifier) : Type 0 where
  Simplified : (m : SimplifiedFormula) → SimplifiesFormula g.given g.frozen m → g.made ≡ None → n ≡ 0 →
      h ≡ record g { made = Some m } → Simplifies g n h
  TooLate : IsSome g.made → IsRefusedFor 19 g n h → Simplifies g n h
  NoRoom : g.made ≡ None → IsRefusedFor 3 g n h → Simplifies g n h

-- The clauses that are left are listed, each ended by a 0.
pub data ListsClauses (g : Simplifier) (n : ℕ) (h : Simplifier) : Type 0 where
  Listed : (m : SimplifiedFormula) → SimplifiesFormula g.given g.frozen m → g.made ≡ Some m → n ≡ 0 →
      h ≡ record g { list = clause_numbers m.left.clauses } → ListsClauses g n h
  Nothing : g.made ≡ None → IsRefusedFor 15 g n h → ListsClauses g n h
  NoRoom : IsSome g.made → n ≡ 3 → h ≡ record g { list = h.list } → ListsClauses g n h

-- each clause has a literal of the list, and no literal's opposite is in it too
pub record IsModelOf (P : List Clause) (ls : List Literal) : Type 0 where
  pub meets : (c : Clause) → c ∈ P → (l : Literal) × (l ∈ c) × (l ∈ ls)
  pub apart : (l : Literal) → l ∈ ls → opposite l ∈ ls → ⊥

-- The values that the literals give all variables up to the highest that was given are extended by the stack. They
-- satisfy the clauses that were given where the literals are a model of those that are left.
pub record IsExtension (g : Simplifier) (m : SimplifiedFormula) (ls : List Literal) (ws : List Bool) : Type 0 where
  pub simplified : SimplifiesFormula g.given g.frozen m
  pub values : ws ≡ extended m.stack (model_values g.given.var_count ls)
  pub model : IsModelOf m.left.clauses ls → SatisfiesAll (assignment_of ws) g.given.clauses

-- A model of the clauses that are left is extended to one of those that were given.
pub data Extends (numbers : List ℤ) (g : Simplifier) (n : ℕ) (h : Simplifier) : Type 0 where
  Extended : (m : SimplifiedFormula) (ws : List Bool) → (pos 0 ∈ numbers → ⊥) →
      IsExtension g m (map literal_numbered numbers) ws → g.made ≡ Some m → n ≡ 0 →
      h ≡ record g { list = value_numbers ws } → Extends numbers g n h
  Zero : pos 0 ∈ numbers → IsRefusedFor 14 g n h → Extends numbers g n h
  Nothing : g.made ≡ None → IsRefusedFor 15 g n h → Extends numbers g n h
  NoRoom : n ≡ 3 → h ≡ record g { list = h.list } → Extends numbers g n h
