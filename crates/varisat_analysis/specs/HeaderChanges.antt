-- Stored clauses of which the headers alone change.
use Rattle.std.specs.Prelude.{◌≡◌, ℕ, List, map, not}
use Rattle.varisat_theory.specs.promises.Searches.{KeptClause}
use Rattle.varisat_clause.specs.declared.header.Tier.TheVariants as tier
use Rattle.varisat_clause.specs.Tiers.{is_tier}
use Rattle.varisat_clause.specs.Stored.{StoredClause}
use Rattle.varisat_prop.specs.View.{View}

-- the clause as a proof sees it: those that are not Irred are learned
abbrev pub kept_clause : StoredClause → KeptClause
kept_clause k = record { clause = k.literals; learned = not (is_tier k.header.tier tier.Irred) }

-- a stored clause without its header: where it stands, its literals, and whether it is learned
pub record PlacedClause : Type 0 where
  pub place : ℕ
  pub kept : KeptClause

-- a clause of the store with its place, as a proof sees it
abbrev pub placed_clause : StoredClause → PlacedClause
placed_clause k = record { place = k.place; kept = kept_clause k }

-- Each clause keeps its place and its literals, and is learned where it was, and the clauses keep their order.
abbrev pub SameButHeaders : List StoredClause → List StoredClause → Type 0
SameButHeaders ks js = map placed_clause js ≡ map placed_clause ks

-- nothing changes but headers of clauses
pub record ChangesHeaders (s t : View) : Type 0 where
  pub clauses : SameButHeaders s.clauses t.clauses
  pub rest : t ≡ record s { clauses = t.clauses }
