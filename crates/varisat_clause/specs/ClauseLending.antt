-- What a clause to be changed ends as where its literals are lent.
use Rattle.std.specs.Prelude.{ℕ, List, [], ◌+◌}
use Rattle.std.specs.Borrow.{Lends, Fml, RattleType, MutBor, Array}
use Rattle.std.specs.declared.alloc.Allocator.{Ghosts}
use mir.Syntax.{named}
use Rattle.varisat_literals.specs.contracts.lit.Lit.{the_row as lit_row}
use Rattle.varisat_clause.specs.declared.clause.ClauseMut.{ClauseMut}
use Rattle.varisat_clause.specs.contracts.clause.ClauseMut.{the_row}
use Rattle.varisat_clause.specs.Stores.{put_words}

module _ (A : RattleType) (alloc : Ghosts A.Denot) (s : MutBor (ClauseMut A.Denot)) where
  -- The store ends with what was written to the literals that were lent.
  abbrev pub lends_of_clause : MutBor (List ℕ) → Fml
  lends_of_clause r =
      Lends (the_row (record { mir = named 1; lft = [] }) A alloc) (Array lit_row 0) s r
      (λ w. record s.now { alloc = record s.now.alloc { now = put_words s.now.alloc.now (s.now.cref + 3) w } })
