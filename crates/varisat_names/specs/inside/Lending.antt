-- What is lent of the variables, and what they end as with what is written to it.
use Rattle.std.specs.Prelude.{ℕ, List, slice_set}
use Rattle.std.specs.Borrow.{Lends, follows, Fml, RattleType, MutBor, u32}
use Rattle.std.specs.declared.vec.Vec.{Vec}
use Rattle.std.specs.contracts.vec.Vec as vec
use Rattle.std.specs.declared.alloc.Allocator.{Ghosts}
use Rattle.varisat_names.specs.contracts.variables.code_pages.CodePages.{the_row as pages_row}
use Rattle.varisat_names.specs.contracts.variables.var_map.VarBiMap.{the_row as map_row}
use Rattle.varisat_names.specs.contracts.variables.names.NameSpace.{the_row as names_row}
use Rattle.varisat_names.specs.contracts.variables.globals.Globals.{the_row as globals_row}
use Rattle.varisat_names.specs.contracts.variables.Variables.{the_row}
use Rattle.varisat_names.specs.declared.variables.var_map.VarBiMapMut.{VarBiMapMut}
use Rattle.varisat_names.specs.declared.variables.data_mut.VarDataMut.{VarDataMut}
use Rattle.varisat_names.specs.promises.VarBiMap.{turned}
use Rattle.varisat_names.specs.promises.Variables.{NamePairs, VariableParts}

module _ (A : RattleType) (alloc : Ghosts A.Denot) where
  -- the pairs of a name space
  abbrev pub lends_pairs : MutBor NamePairs → VarBiMapMut A.Denot → Fml
  lends_pairs s r =
      follows (names_row A alloc) (map_row A alloc) s.ghost_name r.map.ghost_name (λ w. record s.now { pairs = w })

  -- a page of codes
  abbrev pub lends_page : MutBor (List (List ℕ)) → ℕ → MutBor (Vec ℕ A.Denot) → Fml
  lends_page s x r = Lends (pages_row A alloc) (vec.the_row u32 A alloc) s r (λ v. slice_set s.now x v.items)

  -- the map between names and global variables
  abbrev pub lends_users : MutBor VariableParts → VarBiMapMut A.Denot → Fml
  lends_users s r =
      follows (the_row A alloc) (map_row A alloc) s.ghost_name r.map.ghost_name
      (λ w. record s.now { tables = record s.now.tables { users = w } })

  -- the map between solver variables and global variables
  abbrev pub lends_solvers : MutBor VariableParts → VarBiMapMut A.Denot → Fml
  lends_solvers s r =
      follows (the_row A alloc) (map_row A alloc) s.ghost_name r.map.ghost_name
      (λ w. record s.now { tables = record s.now.tables { solvers = turned w } })

  -- what is kept of the global variables, and which may be used again
  abbrev pub lends_globals : MutBor VariableParts → VarDataMut A.Denot → Fml
  lends_globals s r =
      follows (the_row A alloc) (globals_row A alloc) s.ghost_name r.globals.ghost_name
      (λ w. record s.now { tables = record s.now.tables { kept = w.kept }; free = record s.now.free { globals = w.free } })
