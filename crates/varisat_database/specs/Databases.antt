-- What a database of clauses holds.
use Rattle.std.specs.Prelude.{◌≡◌, ℕ, Bool, true, false, List, [], ◌∷◌, ◌++◌, slice_index_or, slice_set}
use Rattle.varisat_theory.specs.promises.Literals.{Clause}
use Rattle.varisat_theory.specs.promises.Derivations.{Line, Add, Delete}
use Rattle.varisat_database.specs.Written.{WrittenClauses}

-- The clauses that there ever were, in order, whether each is still live, the lines of a proof that added and deleted them, and the
-- stack by which models are extended. No variable that is flagged in `frozen` is resolved away. `saves_both`: of a variable that is resolved
-- away the clauses with either literal are saved, so that it can be restored; else those with one literal, and the other as a unit.
pub record DatabaseState : Type 0 where
  pub var_count : ℕ
  pub frozen : List Bool
  pub saves_both : Bool
  pub clauses : List Clause
  pub live : List Bool
  pub lines : List Line
  pub stack : List Clause

-- the state of clauses that were written, of which the flagged ones are live
abbrev pub state_of : ℕ → List Bool → Bool → WrittenClauses → List Bool → List Clause → DatabaseState
state_of n frozen both w live stack =
    record { var_count = n; frozen = frozen; saves_both = both; clauses = w.clauses; live = live; lines = w.lines; stack = stack }

-- no clauses
abbrev pub no_clauses : ℕ → List Bool → Bool → DatabaseState
no_clauses n frozen both = record { var_count = n; frozen = frozen; saves_both = both; clauses = []; live = []; lines = []; stack = [] }

-- one more clause, which is live, and which a checker has already
abbrev pub given : DatabaseState → Clause → DatabaseState
given s c = record s { clauses = s.clauses ++ c ∷ []; live = s.live ++ true ∷ [] }

-- one more clause, which is live, and which a line adds
abbrev pub pushed : DatabaseState → Clause → DatabaseState
pushed s c = record s { clauses = s.clauses ++ c ∷ []; live = s.live ++ true ∷ []; lines = s.lines ++ Add c ∷ [] }

-- the one or the other
abbrev pub given_or_pushed : Bool → DatabaseState → Clause → DatabaseState
given_or_pushed true s c = given s c
given_or_pushed false s c = pushed s c

-- a line that deletes the clause, if it is live
abbrev pub deletion : Bool → Clause → List Line
deletion true c = Delete c ∷ []
deletion false c = []

-- the clause at the place
abbrev pub clause_at : DatabaseState → ℕ → Clause
clause_at s k = slice_index_or s.clauses k []

-- the clause at the place is live
abbrev pub IsLive : DatabaseState → ℕ → Type 0
IsLive s k = slice_index_or s.live k false ≡ true

-- the clause at the place is live no longer, and a line deletes it if it was
abbrev pub removed : DatabaseState → ℕ → DatabaseState
removed s k =
    record s {
      live = slice_set s.live k false;
      lines =
          s.lines ++ deletion (slice_index_or s.live k false) (clause_at s k);
    }

-- one more clause on the stack
abbrev pub saved : DatabaseState → Clause → DatabaseState
saved s c = record s { stack = s.stack ++ c ∷ [] }
