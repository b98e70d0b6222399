-- What is left where variables leave: `gone` says of each variable whether it does.
use Rattle.std.specs.Prelude.{◌≡◌, ℕ, suc, ◌-◌, ◌^◌, ◌<◌, Bool, false, not, if◌then◌else◌, List, [], ◌∷◌, length, slice_index_or}
use Rattle.std.specs.List.{filter}
use Rattle.varisat_theory.specs.promises.Literals.{Literal, variable_of}
use Rattle.varisat_prop.specs.declared.prop.graph.ImplNode.{ImplNode}
use Rattle.varisat_prop.specs.declared.prop.graph.Reason.TheVariants as reason
use Rattle.varisat_prop.specs.View.{no_node}

-- the variable leaves
abbrev pub leaves : List Bool → ℕ → Bool
leaves gone v = slice_index_or gone v false

-- the literals of variables that stay
abbrev pub staying : List Bool → List Literal → List Literal
staying gone ls = filter (λ l. not (leaves gone (variable_of l))) ls

-- the node of a variable that was fixed, once its literal was taken off the trail
abbrev pub removed_unit : ImplNode → ImplNode
removed_unit n = record n { reason = reason.Unit; depth = 2 ^ 32 - 1 }

-- what there is for each variable, with x for those that leave
abbrev pub cleared : {X : Type 0} → List Bool → X → List X → List X
cleared [] x ys = ys
cleared (g ∷ gone) x [] = []
cleared (g ∷ gone) x (y ∷ ys) = (if g then x else y) ∷ cleared gone x ys

-- Each of the literals, which are on the trail in this order, has its place noted as its depth. Reasons and levels stay.
pub record AreRenumbered (ls : List Literal) (old new : List ImplNode) : Type 0 where
  pub count : length new ≡ length old
  pub depths : (k : ℕ) → k < length ls →
      (slice_index_or new (variable_of (slice_index_or ls k 0)) no_node).depth ≡ suc k
  pub rest : (v : ℕ) →
      slice_index_or new v no_node
      ≡ record (slice_index_or old v no_node) { depth = (slice_index_or new v no_node).depth }
