-- A simplification that is done in parts.
use Rattle.std.specs.Prelude.{◌≡◌, ℕ, ◌≤◌, Bool, true, List, ◌⊎◌}
use Rattle.varisat_theory.specs.promises.Literals.{Clause, Assignment, SatisfiesAll}
use Rattle.varisat_theory.specs.promises.Derivations.{Line}
use Rattle.varisat_theory.specs.promises.Held.{SameClauses}
use Rattle.varisat_formula.specs.promises.Formulas.{Formula, AreBelow}
use Rattle.varisat_rules.specs.promises.Stacks.{KeepsFrozen}
use Rattle.varisat_database.specs.Databases.{DatabaseState}
use Rattle.varisat_simplify.specs.promises.Simplified.{IsShorter, IsReduced, IsMadeOf}

-- the clauses, and how many of them were loaded
pub record Simplification : Type 0 where
  pub database : DatabaseState
  pub loaded : ℕ

-- The clauses of the formula were loaded, and what is there was made of them. The flagged variables stay. `both` says whether
-- the clauses with either literal of an eliminated variable are saved.
pub record IsBegunOf (f : Formula) (frozen : List Bool) (both : Bool) (s : Simplification) : Type 0 where
  pub below : AreBelow s.database.var_count f.clauses
  pub least : (n : ℕ) → AreBelow n f.clauses → s.database.var_count ≤ n
  pub reduced : IsReduced f.clauses s.database.var_count frozen both s.loaded s.database

-- Whatever formula the simplification was begun of, it still is.
abbrev pub GoesOn : Simplification → Simplification → Type 0
GoesOn s t = (f : Formula) (frozen : List Bool) (both : Bool) → IsBegunOf f frozen both s → IsBegunOf f frozen both t

-- The formula g and the stack were made of f by the lines, and the flagged variables stayed.
pub record IsSimplified (f : Formula) (frozen : List Bool) (both : Bool) (g : Formula) (stack : List Clause) (lines : List Line) :
    Type 0 where
  pub made : IsMadeOf f g stack lines
  pub kept : KeepsFrozen frozen stack
  pub shorter : SameClauses g.clauses f.clauses ⊎ IsShorter g.clauses f.clauses
  pub implied : both ≡ true → (a : Assignment) → SatisfiesAll a f.clauses → SatisfiesAll a stack
