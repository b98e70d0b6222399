-- What a database holds once clauses were loaded.
use Rattle.std.specs.Prelude.{◌≡◌, ℕ, ◌≤◌, Bool, List, []}
use Rattle.varisat_theory.specs.promises.Literals.{Clause}
use Rattle.varisat_theory.specs.promises.Held.{SameClauses}
use Rattle.varisat_database.specs.Databases.{DatabaseState}
use Rattle.varisat_rules.specs.inside.States.{DerivesFrom}
use Rattle.varisat_simplify.specs.promises.Simplified.{literal_count}

-- The clauses P were loaded, over so many variables, of which the flagged ones are frozen. `both` says whether the
-- clauses with either literal of an eliminated variable are to be saved.
pub record IsLoaded (P : List Clause) (n : ℕ) (frozen : List Bool) (both : Bool) (s : DatabaseState) : Type 0 where
  pub reduces : DerivesFrom P s
  pub same : SameClauses s.clauses P
  pub empty : s.stack ≡ []
  pub fewer : literal_count s.clauses ≤ literal_count P
  pub count : s.var_count ≡ n
  pub flags : s.frozen ≡ frozen
  pub saves : s.saves_both ≡ both
