-- What a proof can see of a view.
use Rattle.std.specs.Prelude.{◌≡◌, Bool, false, ◌&&◌, not, nat_eq, List, [], ◌++◌, map}
use Rattle.std.specs.List.{filter}
use Rattle.varisat_theory.specs.promises.Membership.{◌∈◌}
use Rattle.varisat_theory.specs.promises.Literals.{Literal, Clause}
use Rattle.varisat_prop.specs.declared.prop.graph.Reason.TheVariants as reason
use Rattle.varisat_prop.specs.View.{View, pairs_from, node_of, level_of, is_clause}
use Rattle.varisat_theory.specs.promises.Searches.{KeptClause, Search}
use Rattle.varisat_theory.specs.inside.Outcomes.{SearchOutcome, Unknown, Sat, Unsat, UnsatUnder}
use Rattle.varisat_analysis.specs.HeaderChanges.{kept_clause}
use Rattle.varisat_search.specs.declared.state.SatState.{SatState}
use Rattle.varisat_search.specs.declared.state.SatState.TheVariants as verdict
use Rattle.varisat_search.specs.Steps.{assignment_of}

-- A clause of two literals is dropped by no reduction, also a learned one.
abbrev pub kept_pair : Clause → KeptClause
kept_pair c = record { clause = c; learned = false }

-- the literal is of level 0
abbrev pub is_fixed : View → Literal → Bool
is_fixed s l = nat_eq (level_of s l) 0

-- and no clause is its reason: it is a unit clause by itself
abbrev pub is_proved : View → Literal → Bool
is_proved s l = nat_eq (level_of s l) 0 && not (is_clause (node_of s l).reason)

-- the search as a proof sees it: kept clauses, which of them are learned, and the literals of level 0
abbrev pub search_of : View → Search
search_of s =
    record {
      kept = map kept_clause s.clauses ++ map kept_pair (pairs_from 0 s.binary);
      fixed = filter (is_fixed s) s.trail;
      proved = filter (is_proved s) s.trail;
    }

-- a search without clauses
abbrev pub first_search : Search
first_search = record { kept = []; fixed = []; proved = [] }

-- the literal is true at level 0, and has no clause as its reason
abbrev pub IsProved : View → Literal → Type 0
IsProved s l = (l ∈ s.trail) × (level_of s l ≡ 0) × ((node_of s l).reason ≡ reason.Unit)

-- the verdict with what was found: the values, or the core
abbrev pub outcome_of : View → List Literal → SatState → SearchOutcome
outcome_of s core verdict.Unknown = Unknown
outcome_of s core verdict.Sat = Sat (assignment_of s)
outcome_of s core verdict.Unsat = Unsat
outcome_of s core verdict.UnsatUnderAssumptions = UnsatUnder core
