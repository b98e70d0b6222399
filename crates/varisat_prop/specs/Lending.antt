-- What a part ends as where some of it is lent.
use Rattle.std.specs.Prelude.{List, slice_set}
use Rattle.std.specs.Borrow.{Lends, Fml, RattleType, MutBor}
use Rattle.std.specs.declared.alloc.Allocator.{Ghosts}
use Rattle.varisat_theory.specs.promises.Literals.{Literal}
use Rattle.varisat_prop.specs.contracts.binary.BinaryClauses.{the_row as binary_row}
use Rattle.varisat_prop.specs.contracts.prop.watch_list.WatchList.{the_row as watch_list_row}
use Rattle.varisat_prop.specs.contracts.short.ShortList.{the_row as short_row}
use Rattle.varisat_prop.specs.contracts.prop.watch.Watchlists.{the_row as watchlists_row}
use Rattle.varisat_prop.specs.declared.prop.watch_list.Watch.{Watch}
use Rattle.varisat_prop.specs.Watches.{Watches, with_watches}

module _ (A : RattleType) (alloc : Ghosts A.Denot) (s : MutBor Watches) where
  -- The lists of watches end with what was made of the one that was lent.
  abbrev pub lends_list : Literal → MutBor (List Watch) → Fml
  lends_list x r = Lends (watchlists_row A alloc) (watch_list_row A alloc) s r (λ ws. with_watches s.now x ws)

module _ (A : RattleType) (alloc : Ghosts A.Denot) (s : MutBor (List (List Literal))) where
  -- The lists of implied literals end with what was made of the one that was lent.
  abbrev pub lends_implied : Literal → MutBor (List Literal) → Fml
  lends_implied x r = Lends (binary_row A alloc) (short_row A alloc) s r (λ v. slice_set s.now x v)
