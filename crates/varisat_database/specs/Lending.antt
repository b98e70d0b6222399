-- What the lists of places end as where one is lent.
use Rattle.std.specs.Prelude.{ℕ, List, slice_set}
use Rattle.std.specs.Borrow.{Lends, Fml, RattleType, MutBor, u32}
use Rattle.std.specs.declared.vec.Vec.{Vec}
use Rattle.std.specs.contracts.vec.Vec as vec
use Rattle.std.specs.declared.alloc.Allocator.{Ghosts}
use Rattle.varisat_theory.specs.promises.Literals.{Literal}
use Rattle.varisat_database.specs.contracts.occurrences.Occurrences.{the_row as occurrences_row}

module _ (A : RattleType) (alloc : Ghosts A.Denot) (s : MutBor (List (List ℕ))) where
  -- The lists end with what was made of the one that was lent.
  abbrev pub lends_places : Literal → MutBor (Vec ℕ A.Denot) → Fml
  lends_places x r = Lends (occurrences_row A alloc) (vec.the_row u32 A alloc) s r (λ v. slice_set s.now x v.items)
