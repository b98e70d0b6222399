-- Clauses that were written one behind the other, and the lines of a proof that add and delete them.
use Rattle.std.specs.Prelude.{ℕ, ◌/◌, ◌%◌, ◌<◌, ◌≤◌, ◌^◌, nat_eq, Bool, true, false, if◌then◌else◌, List, [], ◌∷◌, ◌++◌, length, slice_index_or}
use Rattle.varisat_theory.specs.promises.Membership.{◌∈◌}
use Rattle.varisat_theory.specs.promises.Literals.{Clause}
use Rattle.varisat_theory.specs.promises.Derivations.{Line, Add, Delete}

-- the clauses, and the lines
pub record WrittenClauses : Type 0 where
  pub clauses : List Clause
  pub lines : List Line

-- nothing
abbrev pub nothing : WrittenClauses
nothing = record { clauses = []; lines = [] }

-- one more clause, which a line adds unless it was given
abbrev pub with_clause : Bool → WrittenClauses → Clause → WrittenClauses
with_clause true h c = record h { clauses = h.clauses ++ c ∷ [] }
with_clause false h c = record { clauses = h.clauses ++ c ∷ []; lines = h.lines ++ Add c ∷ [] }

-- a line that deletes the clause at the place
abbrev pub with_deletion : WrittenClauses → ℕ → WrittenClauses
with_deletion h k = record h { lines = h.lines ++ Delete (slice_index_or h.clauses k []) ∷ [] }

-- The line by its number: twice the place of the clause that it adds, and one more for a deletion.
abbrev pub line_at : List Clause → ℕ → Line
line_at cs step =
    if nat_eq (step % 2) 0 then Add (slice_index_or cs (step / 2) []) else Delete (slice_index_or cs (step / 2) [])

-- the clause of a line
abbrev pub clause_of : Line → Clause
clause_of (Add c) = c
clause_of (Delete c) = c

-- whether it deletes the clause
abbrev pub is_deletion : Line → Bool
is_deletion (Add c) = false
is_deletion (Delete c) = true

-- what is true of the clauses and the numbers inside
pub record AreWritten (cs : List Clause) (steps : List ℕ) : Type 0 where
  pub small : length cs ≤ 2 ^ 31
  pub below : (step : ℕ) → step ∈ steps → step / 2 < length cs
