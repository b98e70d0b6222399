-- A store after its garbage was collected.
use Rattle.std.specs.Prelude.{ℕ, ◌+◌, false, if◌then◌else◌, List, [], ◌∷◌, length}
use Rattle.varisat_clause.specs.Stored.{StoredClause}
use Rattle.varisat_clause.specs.Stores.{Store, stored_clauses, HoldsClauses, AddsStored}
use Rattle.varisat_clause.specs.Databases.{Database, total, size_of, Tracks}

-- the clauses that are not deleted, in order
abbrev pub live_of : List StoredClause → List StoredClause
live_of [] = []
live_of (k ∷ ks) = if k.header.deleted then live_of ks else k ∷ live_of ks

-- the clauses of a store that are not deleted, in order of places
abbrev pub live_clauses : Store → List StoredClause
live_clauses s = live_of (stored_clauses s)

-- the clause as it is packed at the place: without its mark
abbrev pub packed_at : ℕ → StoredClause → StoredClause
packed_at p k = record { place = p; header = record k.header { mark = false }; literals = k.literals }

-- the clause is packed behind the words that there were
abbrev pub PacksClause : Store → Store → StoredClause → Type 0
PacksClause old new k = AddsStored old new (packed_at (length old.words) k)

-- the same clauses one after another from the place on, without marks
abbrev pub packed : ℕ → List StoredClause → List StoredClause
packed p [] = []
packed p (k ∷ ks) = packed_at p k ∷ packed (p + size_of k) ks

-- The clauses after a collection: those that were not deleted, in order, their marks cleared, and each place the sum of
-- the words before it.
abbrev pub collected : List StoredClause → List StoredClause
collected ks = packed 0 (live_of ks)

-- how many words they take
abbrev pub live_size : List StoredClause → ℕ
live_size ks = total size_of (live_of ks)

-- a store and a database that are those of the clauses after a collection
pub record IsCollected (new : Store) (d : Database) (ks : List StoredClause) : Type 0 where
  pub store : HoldsClauses new (live_size ks) (collected ks)
  pub tracks : Tracks d new
