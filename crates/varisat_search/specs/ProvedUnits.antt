-- Units of level 0 that a clause implied, and what is noted of them once each is held as a clause of its own.
use Rattle.std.specs.Prelude.{◌≡◌, ◌≢◌, ℕ, List, length, slice_index_or}
use Rattle.std.specs.List.{filter}
use Rattle.varisat_theory.specs.promises.Membership.{◌∈◌}
use Rattle.varisat_theory.specs.promises.Literals.{Literal, variable_of}
use Rattle.varisat_prop.specs.declared.prop.graph.Reason.TheVariants as reason
use Rattle.varisat_prop.specs.declared.prop.graph.ImplNode.{ImplNode}
use Rattle.varisat_prop.specs.View.{View, no_node, is_clause}

-- those of the literals that a clause implied, in order
abbrev pub units_in : List ImplNode → List Literal → List Literal
units_in nodes ls = filter (λ l. is_clause (slice_index_or nodes (variable_of l) no_node).reason) ls

-- the literals of the trail that a clause implied, oldest first
abbrev pub implied_units : View → List Literal
implied_units s = units_in s.nodes s.trail

-- The variables of the literals keep their levels and their places, and no clause is their reason. No other node changes.
pub record HaveUnits (ls : List Literal) (old new : List ImplNode) : Type 0 where
  pub count : length new ≡ length old
  pub units : (l : Literal) → l ∈ ls →
      slice_index_or new (variable_of l) no_node
      ≡ record (slice_index_or old (variable_of l) no_node) { reason = reason.Unit }
  pub others : (v : ℕ) → ((l : Literal) → l ∈ ls → variable_of l ≢ v) →
      slice_index_or new v no_node ≡ slice_index_or old v no_node

-- No clause is a literal's reason any more, and nothing else changes.
pub record ProvesUnits (s t : View) : Type 0 where
  pub nodes : HaveUnits s.trail s.nodes t.nodes
  pub rest : t ≡ record s { nodes = t.nodes }
