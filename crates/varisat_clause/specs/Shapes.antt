-- What of a store's clauses stays where only the order of literals changes. Of deleted clauses no more is said than this.
use Rattle.std.specs.Prelude.{◌≡◌, ℕ, List, length, map}
use Rattle.varisat_clause.specs.Headers.{Header}
use Rattle.varisat_clause.specs.Stored.{StoredClause}
use Rattle.varisat_clause.specs.Stores.{Store, stored_clauses}

-- where a clause stands, what is noted of it, and how many literals it has
pub record ClauseShape : Type 0 where
  pub place : ℕ
  pub header : Header
  pub count : ℕ

-- what is left of a clause without its literals
abbrev pub shape_of : StoredClause → ClauseShape
shape_of k = record { place = k.place; header = k.header; count = length k.literals }

-- so it is with several
abbrev pub shapes_of : List StoredClause → List ClauseShape
shapes_of ks = map shape_of ks

-- Each clause keeps its place, its header and its number of literals, and the clauses keep their order.
abbrev pub KeepsShapes : Store → Store → Type 0
KeepsShapes s t = shapes_of (stored_clauses t) ≡ shapes_of (stored_clauses s)
