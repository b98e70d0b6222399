-- What a collection of garbage makes of a search: clauses move, and reasons follow.
use Rattle.std.specs.Prelude.{◌≡◌, ℕ, ◌<◌, Bool, nat_eq, if◌then◌else◌, Option, List, [], ◌∷◌, length, slice_index_or, slice_set}
use Rattle.varisat_clause.specs.Stored.{StoredClause}
use Rattle.varisat_clause.specs.Stores.{Store, stored_clauses}
use Rattle.varisat_clause.specs.Collected.{packed, live_clauses}
use Rattle.varisat_prop.specs.declared.prop.graph.Reason.{Reason}
use Rattle.varisat_prop.specs.declared.prop.graph.Reason.TheVariants as reason
use Rattle.varisat_prop.specs.declared.prop.graph.ImplNode.{ImplNode}
use Rattle.varisat_prop.specs.View.{View, no_node, node_at}
use Rattle.varisat_analysis.specs.Reductions.{first_variable, is_reason}

-- where the clause at the place of the first list stands in the second, in which the i-th is the i-th of the first
abbrev pub new_place : List StoredClause → List StoredClause → ℕ → ℕ
new_place [] js p = p
new_place (k ∷ ks) [] p = p
new_place (k ∷ ks) (j ∷ js) p = if nat_eq k.place p then j.place else new_place ks js p

-- the reason names the same clause
abbrev pub moved_reason : List StoredClause → List StoredClause → Reason → Reason
moved_reason ks js reason.Unit = reason.Unit
moved_reason ks js (reason.Binary ms) = reason.Binary ms
moved_reason ks js (reason.Long p) = reason.Long (new_place ks js p)

-- The clauses stand one after another from place 0 on, without marks, and each literal of the trail has the same
-- reason as before.
pub record Repacks (s t : View) : Type 0 where
  pub clauses : t.clauses ≡ packed 0 s.clauses
  pub count : length t.nodes ≡ length s.nodes
  pub nodes : (k : ℕ) → k < length s.trail →
      node_at t k ≡ record (node_at s k) { reason = moved_reason s.clauses t.clauses (node_at s k).reason }
  pub rest : t ≡ record s { clauses = t.clauses; nodes = t.nodes }

-- the clause is the reason of its first literal at the other place from now on, where it was so
abbrev pub repointed : List (Option Bool) → List ImplNode → StoredClause → ℕ → List ImplNode
repointed values nodes k q =
    if is_reason values nodes k then slice_set nodes (first_variable k)
    (record (slice_index_or nodes (first_variable k) no_node) { reason = reason.Long q }) else nodes

-- each clause in turn, to the place of the one of the second list
abbrev pub repointed_each : List (Option Bool) → List StoredClause → List StoredClause → List ImplNode → List ImplNode
repointed_each values [] js nodes = nodes
repointed_each values (k ∷ ks) [] nodes = nodes
repointed_each values (k ∷ ks) (j ∷ js) nodes = repointed_each values ks js (repointed values nodes k j.place)

-- each kept clause of the old store in turn, to the place of the one of the new store
abbrev pub reasons_repointed : Store → Store → List (Option Bool) → List ImplNode → List ImplNode
reasons_repointed old new values nodes = repointed_each values (live_clauses old) (stored_clauses new) nodes
