-- Which clauses a reduction takes out, and what is left.
use Rattle.std.specs.Prelude.{◌≡◌, ◌≢◌, ℕ, ◌<◌, Bool, true, false, not, ◌&&◌, nat_eq, if◌then◌else◌, Option, None, is_some, List, length, map, slice_index_or}
use Rattle.std.specs.List.{filter}
use Rattle.varisat_theory.specs.promises.Membership.{◌∈◌}
use Rattle.varisat_theory.specs.promises.Literals.{variable_of}
use Rattle.varisat_clause.specs.declared.header.Tier.TheVariants as tier
use Rattle.varisat_clause.specs.Stored.{StoredClause}
use Rattle.varisat_prop.specs.declared.prop.graph.Reason.{Reason}
use Rattle.varisat_prop.specs.declared.prop.graph.Reason.TheVariants as reason
use Rattle.varisat_prop.specs.declared.prop.graph.ImplNode.{ImplNode}
use Rattle.varisat_prop.specs.View.{View, no_node, node_at}
use Rattle.varisat_prop.specs.Watches.{literal_in}
use Rattle.varisat_analysis.specs.HeaderChanges.{SameButHeaders}

-- the reason is the clause at the place
abbrev pub is_clause_at : Reason → ℕ → Bool
is_clause_at reason.Unit p = false
is_clause_at (reason.Binary ms) p = false
is_clause_at (reason.Long q) p = nat_eq q p

-- the variable of the clause's first literal
abbrev pub first_variable : StoredClause → ℕ
first_variable k = variable_of (literal_in k.literals 0)

-- The clause is the reason of its first literal, whose variable has a value.
abbrev pub is_reason : List (Option Bool) → List ImplNode → StoredClause → Bool
is_reason values nodes k =
    is_some (slice_index_or values (first_variable k) None) && is_clause_at
    (slice_index_or nodes (first_variable k) no_node).reason k.place

-- A clause that is not deleted is marked exactly where it is a reason.
abbrev pub reason_marked : List (Option Bool) → List ImplNode → StoredClause → StoredClause
reason_marked values nodes k =
    if k.header.deleted then k else record k { header = record k.header { mark = is_reason values nodes k } }

-- the clauses once each that is the reason of its first literal is marked
abbrev pub reasons_marked : List (Option Bool) → List ImplNode → List StoredClause → List StoredClause
reasons_marked values nodes ks = map (reason_marked values nodes) ks

-- Some clauses of the tier Local are taken out, of which none is a reason. The others stay in their order, and only
-- headers of them change.
pub record Discards (s t : View) : Type 0 where
  pub gone : StoredClause → Bool
  pub clauses : SameButHeaders (filter (λ k. not (gone k)) s.clauses) t.clauses
  pub learned : (k : StoredClause) → k ∈ s.clauses → gone k ≡ true → k.header.tier ≡ tier.Local
  pub unused : (k : StoredClause) → k ∈ s.clauses → gone k ≡ true → (i : ℕ) → i < length s.trail →
      (node_at s i).reason ≢ reason.Long k.place
  pub rest : t ≡ record s { clauses = t.clauses }
