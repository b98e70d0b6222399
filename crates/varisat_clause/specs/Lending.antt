-- What a store ends as where the literals of a clause are lent.
use Rattle.std.specs.Prelude.{ℕ, List, ◌+◌}
use Rattle.std.specs.Borrow.{Lends, Fml, RattleType, MutBor, Array}
use Rattle.std.specs.declared.alloc.Allocator.{Ghosts}
use Rattle.varisat_literals.specs.contracts.lit.Lit.{the_row as lit_row}
use Rattle.varisat_clause.specs.contracts.alloc.ClauseAlloc.{the_row}
use Rattle.varisat_clause.specs.Stores.{Store, put_words}

module _ (A : RattleType) (alloc : Ghosts A.Denot) (s : MutBor Store) where
  -- The store ends with what was written to the literals that were lent, which stand behind the three words of the header.
  abbrev pub lends_literals : ℕ → MutBor (List ℕ) → Fml
  lends_literals p r = Lends (the_row A alloc) (Array lit_row 0) s r (put_words s.now (p + 3))
