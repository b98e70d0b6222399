-- The three name spaces together: names of the user, global variables, solver variables.
use Rattle.std.specs.Prelude.{◌≡◌, ℕ, zero, suc, ◌<◌, ◌↔◌, ◌+◌, ◌-◌, ◌≤◌, if◌then◌else◌, Bool, true, false, Some, None, Option, List, [], length}
use Rattle.std.specs.Ordering.{nat_cmp}
use Rattle.std.specs.BTreeSet.{BTreeSet, contains}
use Rattle.varisat_names.specs.promises.Maps.{IsInverse}
use Rattle.varisat_names.specs.promises.VarMap.{at, IsLeastUnmapped, IsFull}
use Rattle.varisat_names.specs.promises.VarBiMap.{BiMap, no_pairs, IsJoined, IsParted}
use Rattle.varisat_names.specs.promises.VarData.{fresh, dead, data_at, IsDataAt, IsLeastRetired, AreDeleted}
use Rattle.varisat_names.specs.declared.variables.data.VarData.{VarData}
use Rattle.varisat_names.specs.declared.variables.data.SamplingMode.{SamplingMode}
use Rattle.varisat_names.specs.declared.variables.data.SamplingMode.TheVariants as sampling

-- Names and the global variables that they lead to, global variables and their solver variables, and what is kept of each global variable.
pub record Tables : Type 0 where
  pub users : BiMap
  pub solvers : BiMap
  pub kept : List VarData

-- before the first name comes into use
abbrev pub no_variables : Tables
no_variables = record { users = no_pairs; solvers = no_pairs; kept = [] }

-- What is true of the tables at any time: the maps are one to one, and a variable with a name or a solver variable is live.
pub record AreLinked (t : Tables) : Type 0 where
  pub users : IsInverse (at t.users.forward) (at t.users.backward)
  pub solvers : IsInverse (at t.solvers.forward) (at t.solvers.backward)
  pub named : (x u : ℕ) → at t.users.backward x ≡ Some u → (data_at t.kept x).deleted ≡ false
  pub taken : (x v : ℕ) → at t.solvers.forward x ≡ Some v → (data_at t.kept x).deleted ≡ false

-- The free name u leads to the least variable that was not live, which is as one that was just made.
pub record IsGiven (old new : Tables) (u x : ℕ) : Type 0 where
  pub unused : IsLeastRetired old.kept x
  pub users : IsJoined old.users new.users u x
  pub solvers : new.solvers ≡ old.solvers
  pub kept : IsDataAt old.kept x fresh new.kept

-- The next k names from the watermark on came into use, in increasing order.
abbrev pub AreNextGiven : ℕ → Tables → Tables → Type 0
AreNextGiven zero old new = new ≡ old
AreNextGiven (suc k) old new =
    (mid : Tables) × (x : ℕ) × IsGiven old mid (length old.users.forward) x × AreNextGiven k mid new

-- The name u was named: it was in use, or it came into use alone, or all names from the watermark up to it did.
pub data IsNamed (u : ℕ) (old new : Tables) : Type 0 where
  InUse : (x : ℕ) → at old.users.forward u ≡ Some x → new ≡ old → IsNamed u old new
  Free : (x : ℕ) → u < length old.users.forward → at old.users.forward u ≡ None → IsGiven old new u x →
      IsNamed u old new
  Above : length old.users.forward ≤ u → AreNextGiven (u + 1 - length old.users.forward) old new → IsNamed u old new

-- The global variable x has the least free solver variable v.
pub record IsTaken (old new : Tables) (x v : ℕ) : Type 0 where
  pub least : IsLeastUnmapped old.solvers.backward v
  pub users : new.users ≡ old.users
  pub solvers : IsJoined old.solvers new.solvers x v
  pub kept : new.kept ≡ old.kept

-- What is kept of x is now d, and nothing else changed.
pub record IsChangedTo (old new : Tables) (x : ℕ) (d : VarData) : Type 0 where
  pub kept : IsDataAt old.kept x d new.kept
  pub rest : new ≡ record old { kept = new.kept }

-- The name u of x is free, and x is hidden.
pub record IsHidden (old new : Tables) (u x : ℕ) : Type 0 where
  pub users : IsParted old.users new.users u x
  pub solvers : new.solvers ≡ old.solvers
  pub kept : IsDataAt old.kept x (record (data_at old.kept x) { sampling_mode = sampling.Hide }) new.kept

-- whether a variable may be used again that lost its name or its solver variable: it has not the other one, and is isolated
abbrev pub unused : Option ℕ → VarData → Bool
unused None d = d.isolated
unused (Some y) d = false

-- what is kept of such a variable, by the other one: as before, or not live where it is unused
abbrev pub unless_unused : Option ℕ → VarData → VarData
unless_unused other d = if unused other d then dead else d

-- The variable x, which has no name, may be used again where it is unused. Else nothing changed.
pub record IsRetiredIfUnused (old new : Tables) (x : ℕ) : Type 0 where
  pub kept : IsDataAt old.kept x (unless_unused (at old.solvers.forward x) (data_at old.kept x)) new.kept
  pub rest : new ≡ record old { kept = new.kept }

-- Nothing was hidden yet: the names below the watermark are in use, each with the global variable of the same number, all of
-- these are live, and no solver variable below the watermark is free.
pub record IsNothingHidden (t : Tables) : Type 0 where
  pub users : (u : ℕ) → u < length t.users.forward → at t.users.forward u ≡ Some u
  pub count : length t.kept ≡ length t.users.forward
  pub live : (x : ℕ) → x < length t.kept → (data_at t.kept x).deleted ≡ false
  pub solvers : IsFull t.solvers.backward

-- The global variable x has its solver variable v no longer, and may be used again where it is unused.
pub record IsDetached (old new : Tables) (x v : ℕ) : Type 0 where
  pub taken : at old.solvers.backward v ≡ Some x
  pub users : new.users ≡ old.users
  pub solvers : IsParted old.solvers new.solvers x v
  pub kept : IsDataAt old.kept x (unless_unused (at old.users.backward x) (data_at old.kept x)) new.kept

-- The global variable x has the least free name u, and may be used as the mode says.
pub record IsShown (old new : Tables) (x : ℕ) (mode : SamplingMode) (u : ℕ) : Type 0 where
  pub least : IsLeastUnmapped old.users.forward u
  pub users : IsJoined old.users new.users u x
  pub solvers : new.solvers ≡ old.solvers
  pub kept : IsDataAt old.kept x (record (data_at old.kept x) { sampling_mode = mode }) new.kept

-- the set has exactly the numbers below the watermark that the map leads nowhere
abbrev pub AreFree : List (Option ℕ) → BTreeSet ℕ → Type 0
AreFree map free = (u : ℕ) → (contains nat_cmp free u ≡ true) ↔ ((u < length map) × (at map u ≡ None))

-- The pairs of a name space, and the list of the names that are free.
pub record NamePairs : Type 0 where
  pub pairs : BiMap
  pub free : BTreeSet ℕ

-- Lists of what may be used again: names, solver variables, global variables.
pub record FreeLists : Type 0 where
  pub users : BTreeSet ℕ
  pub solvers : BTreeSet ℕ
  pub globals : BTreeSet ℕ

-- The tables with the lists of what may be used again, each of which may change by itself.
pub record VariableParts : Type 0 where
  pub tables : Tables
  pub free : FreeLists

-- The lists hold exactly what is free.
pub record AreListed (p : VariableParts) : Type 0 where
  pub users : AreFree p.tables.users.forward p.free.users
  pub solvers : AreFree p.tables.solvers.backward p.free.solvers
  pub globals : AreDeleted p.tables.kept p.free.globals
