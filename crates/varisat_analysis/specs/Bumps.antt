-- What a conflict does to the activities.
use Rattle.std.specs.Prelude.{◌≡◌, ℕ, ◌<◌, List, [], ◌∷◌, ◌++◌, slice_index_or}
use Rattle.varisat_theory.specs.promises.Membership.{◌∈◌, IsDistinct}
use Rattle.varisat_theory.specs.promises.Literals.{Literal, variable_of}
use Rattle.varisat_prop.specs.declared.prop.graph.ImplNode.{ImplNode}
use Rattle.varisat_prop.specs.declared.prop.graph.Conflict.{Conflict}
use Rattle.varisat_clause.specs.Stored.{StoredClause}
use Rattle.varisat_prop.specs.Changes.{named_in}
use Rattle.varisat_prop.specs.View.{View, no_node}
use Rattle.varisat_vsids.specs.Activities.{Activities, bumped, decayed}

-- bumped for each variable of the list in turn
abbrev pub bumped_each : List ℕ → Activities → Activities
bumped_each [] a = a
bumped_each (v ∷ vs) a = bumped_each vs (bumped v a)

-- the literals of the clauses that are named
abbrev pub literals_among : List StoredClause → List Conflict → List Literal
literals_among ks [] = []
literals_among ks (f ∷ fs) = named_in ks f ++ literals_among ks fs

-- the level of the literal's variable
abbrev pub level_in : List ImplNode → Literal → ℕ
level_in nodes l = (slice_index_or nodes (variable_of l) no_node).level

-- The variables are those of the literals above level 0, each once.
pub record AreVariablesAbove (nodes : List ImplNode) (lits : List Literal) (vars : List ℕ) : Type 0 where
  pub distinct : IsDistinct vars
  pub all : (l : Literal) → l ∈ lits → 0 < level_in nodes l → variable_of l ∈ vars
  pub only : (v : ℕ) → v ∈ vars → (l : Literal) × (l ∈ lits) × (0 < level_in nodes l) × (variable_of l ≡ v)

-- The variables above level 0 of the clauses that are named are bumped, each once, and then activities decay.
abbrev pub BumpsInvolved : View → List Conflict → Activities → Activities → Type 0
BumpsInvolved s names a b =
    (vars : List ℕ) × AreVariablesAbove s.nodes (literals_among s.clauses names) vars
    × (b ≡ decayed (bumped_each vars a))
