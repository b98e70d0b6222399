-- Lines that delete stored clauses.
use Rattle.std.specs.Prelude.{ℕ, List, map}
use Rattle.varisat_theory.specs.promises.Derivations.{Line, Delete}
use Rattle.varisat_clause.specs.Stored.{StoredClause, literals_at}
use Rattle.varisat_clause.specs.Reductions.{unmarked_places}

-- a deletion for each of the places
abbrev pub deletion_lines : List StoredClause → List ℕ → List Line
deletion_lines ks ps = map (λ p. Delete (literals_at ks p)) ps

-- one for each of the first n places at which the clause is not marked
abbrev pub unmarked_deletions : List StoredClause → ℕ → List ℕ → List Line
unmarked_deletions ks n ps = deletion_lines ks (unmarked_places ks n ps)
