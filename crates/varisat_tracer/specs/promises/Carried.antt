-- Literals and entries that are carried along a map of variables.
use Rattle.std.specs.Prelude.{ℕ, ◌+◌, ◌*◌, ◌%◌, List, [], ◌∷◌, map, Option, Some, None}
use Rattle.varisat_theory.specs.promises.Literals.{Literal, variable_of}
use Rattle.varisat_theory.specs.promises.Renaming.{rename_line}
use Rattle.varisat_theory.specs.promises.Journals.{Entry, Accepts, Writes, Assumes, Fails, Retires}

-- the variable, or the first where there is none
abbrev pub variable_or_first : Option ℕ → ℕ
variable_or_first None = 0
variable_or_first (Some v) = v

-- the literal of the variable that the map gives, with the same sign
abbrev pub carry : (ℕ → Option ℕ) → Literal → Literal
carry f l = 2 * variable_or_first (f (variable_of l)) + l % 2

-- The entries of a search as a proof logs them, under other names for the variables. That a variable leaves the search is not logged:
-- what it stands for may live on.
abbrev pub logged_as : (Literal → Literal) → List Entry → List Entry
logged_as f [] = []
logged_as f (Accepts c ∷ es) = Accepts (map f c) ∷ logged_as f es
logged_as f (Writes line ∷ es) = Writes (rename_line f line) ∷ logged_as f es
logged_as f (Assumes a ∷ es) = Assumes (map f a) ∷ logged_as f es
logged_as f (Fails core ∷ es) = Fails (map f core) ∷ logged_as f es
logged_as f (Retires v ∷ es) = logged_as f es
