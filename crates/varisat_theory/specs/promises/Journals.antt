-- What a proof can log of a solver's life, entry by entry, and what is held after it.
use Rattle.std.specs.Prelude.{◌≡◌, ℕ, suc, ◌*◌, List, [], ◌∷◌, ◌++◌, ◌⊎◌, map}
use Rattle.varisat_theory.specs.promises.Literals.{Literal, Clause, variable_of}
use Rattle.varisat_theory.specs.promises.Propagation.{Conflicts, Follows}
use Rattle.varisat_theory.specs.promises.Derivations.{Line, Add, Delete, TakesOut}
use Rattle.varisat_theory.specs.promises.Held.{without}
use Rattle.varisat_theory.specs.promises.Counted.{IsMinor}
use Rattle.varisat_theory.specs.promises.Renaming.{IsWithin, rename_line}

-- an entry of a journal
pub data Entry : Type 0 where
  -- a clause is accepted, as given
  Accepts : Clause → Entry
  -- a line of the proof
  Writes : Line → Entry
  -- a list of assumptions is accepted, as given
  Assumes : List Literal → Entry
  -- a step ends with this core
  Fails : List Literal → Entry
  -- a variable is gone for good, and the clauses that mention it go with it
  Retires : ℕ → Entry

-- Where P is held before the entry, the entry is right and Q is held after it.
abbrev pub Follow : List Clause → Entry → List Clause → Type 0
Follow P (Accepts c) Q = Q ≡ P ++ c ∷ []
Follow P (Writes (Add c)) Q = Follows P c × (Q ≡ P ++ c ∷ [])
Follow P (Writes (Delete c)) Q = TakesOut P c Q
Follow P (Assumes a) Q = Q ≡ P
Follow P (Fails core) Q = Conflicts P core × (Q ≡ P)
Follow P (Retires v) Q = Q ≡ without v P

-- so it is for each of the entries in turn
abbrev pub Leads : List Clause → List Entry → List Clause → Type 0
Leads P [] Q = P ≡ Q
Leads P (e ∷ es) Q = (R : List Clause) × Follow P e R × Leads R es Q

-- a clause that the entry adds by a line does not count: it is a single literal, or part of a clause of P
abbrev pub IsMinorEntry : List Clause → Entry → Type 0
IsMinorEntry P (Writes (Add c)) = IsMinor P c
IsMinorEntry P _ = Unit {0}

-- `Leads`, where at most n of the clauses that lines add are neither a single literal nor part of one held just before
abbrev pub LeadsBy : ℕ → List Clause → List Entry → List Clause → Type 0
LeadsBy n P [] Q = P ≡ Q
LeadsBy n P (e ∷ es) Q =
    (R : List Clause)
    × Follow P e R
    × ((IsMinorEntry P e × LeadsBy n R es Q) ⊎ ((m : ℕ) × (n ≡ suc m) × LeadsBy m R es Q))

-- the accepted clauses, in order
abbrev pub accepted_of : List Entry → List Clause
accepted_of [] = []
accepted_of (Accepts c ∷ es) = c ∷ accepted_of es
accepted_of (_ ∷ es) = accepted_of es

-- the lines, in order
abbrev pub lines_of : List Entry → List Line
lines_of [] = []
lines_of (Writes l ∷ es) = l ∷ lines_of es
lines_of (_ ∷ es) = lines_of es

-- no variable leaves
abbrev pub NoneRetires : List Entry → Type 0
NoneRetires [] = Unit {0}
NoneRetires (Retires v ∷ es) = ⊥
NoneRetires (_ ∷ es) = NoneRetires es

-- the entry under new names
abbrev pub rename_entry : (Literal → Literal) → Entry → Entry
rename_entry f (Accepts c) = Accepts (map f c)
rename_entry f (Writes l) = Writes (rename_line f l)
rename_entry f (Assumes a) = Assumes (map f a)
rename_entry f (Fails core) = Fails (map f core)
rename_entry f (Retires v) = Retires (variable_of (f (2 * v)))

-- the lines as entries
abbrev pub written : List Line → List Entry
written ls = map Writes ls

-- Whatever the entries logged so far lead to from no clauses, the further ones lead on from it, with at most n that count.
abbrev pub GoesOn : ℕ → List Entry → List Entry → Type 0
GoesOn n logged es = (held : List Clause) → Leads [] logged held → (after : List Clause) × LeadsBy n held es after

-- each literal that the entry is right by stands in the list, and so does its opposite; assumptions change nothing held
abbrev pub IsEntryWithin : List Literal → Entry → Type 0
IsEntryWithin ls (Accepts c) = IsWithin ls c
IsEntryWithin ls (Writes (Add c)) = IsWithin ls c
IsEntryWithin ls (Writes (Delete c)) = IsWithin ls c
IsEntryWithin ls (Assumes a) = Unit {0}
IsEntryWithin ls (Fails core) = IsWithin ls core
IsEntryWithin ls (Retires v) = IsWithin ls (2 * v ∷ [])

-- so it is for each entry
abbrev pub AreWithin : List Literal → List Entry → Type 0
AreWithin ls [] = Unit {0}
AreWithin ls (e ∷ es) = IsEntryWithin ls e × AreWithin ls es
