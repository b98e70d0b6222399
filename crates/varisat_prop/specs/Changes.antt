-- What a search does to its view.
use Rattle.std.specs.Prelude.{◌≡◌, suc, ◌<◌, ◌≤◌, Bool, Option, Some, None, List, [], ◌∷◌, ◌++◌, length, slice_index_or, slice_set}
use Rattle.varisat_theory.specs.promises.Literals.{Literal, Clause, variable_of, opposite}
use Rattle.varisat_literals.specs.promises.Numbers.{polarity_of}
use Rattle.varisat_prop.specs.declared.prop.graph.Reason.{Reason}
use Rattle.varisat_prop.specs.declared.prop.graph.Reason.TheVariants as reason
use Rattle.varisat_prop.specs.declared.prop.graph.ImplNode.{ImplNode}
use Rattle.varisat_prop.specs.declared.prop.graph.ImplGraph.{ImplGraph}
use Rattle.varisat_prop.specs.declared.prop.graph.Conflict.{Conflict}
use Rattle.varisat_prop.specs.declared.prop.graph.Conflict.TheVariants as conflict
use Rattle.varisat_clause.specs.Stored.{StoredClause, IsClauseRef, literals_at}
use Rattle.varisat_clause.specs.Stores.{Store}
use Rattle.varisat_theory.specs.promises.Membership.{◌∈◌}
use Rattle.varisat_theory.specs.promises.Propagation.{IsFalse}
use Rattle.varisat_prop.specs.Parts.{Values, TrailParts}
use Rattle.varisat_prop.specs.View.{View, view_of, implied_by}

-- the clause that a reason names is one of the list, and is not empty
abbrev pub NamesClause : List StoredClause → Reason → Type 0
NamesClause ks reason.Unit = Unit {0}
NamesClause ks (reason.Binary ms) = Unit {0}
NamesClause ks (reason.Long p) = IsClauseRef ks p × (1 ≤ length (literals_at ks p))

-- the clause without its first literal
abbrev pub others_of : Clause → Clause
others_of [] = []
others_of (l ∷ c) = c

-- the literals that are false where the reason holds
abbrev pub causes_of : List StoredClause → Reason → List Literal
causes_of ks reason.Unit = []
causes_of ks (reason.Binary ms) = ms
causes_of ks (reason.Long p) = others_of (literals_at ks p)

-- The clause that is named: by its two literals, or by its place.
abbrev pub named_in : List StoredClause → Conflict → Clause
named_in ks (conflict.Binary ms) = ms
named_in ks (conflict.Long p) = literals_at ks p

-- a clause of the store is named by one of its places
abbrev pub NamesPlace : List StoredClause → Conflict → Type 0
NamesPlace ks (conflict.Binary ms) = Unit {0}
NamesPlace ks (conflict.Long p) = IsClauseRef ks p

-- a kept clause is named
abbrev pub NamesKeptClause : View → Conflict → Type 0
NamesKeptClause s (conflict.Binary ms) = (l m : Literal) × (ms ≡ m ∷ opposite l ∷ []) × (m ∈ implied_by s l)
NamesKeptClause s (conflict.Long p) = IsClauseRef s.clauses p

-- a kept clause is named, and all its literals are false
abbrev pub IsConflicting : View → Conflict → Type 0
IsConflicting s f = NamesKeptClause s f × IsFalse s.trail (named_in s.clauses f)

-- the literal's variable is one of those that there are, and has no value
abbrev pub IsAssignable : List (Option Bool) → List ImplNode → Literal → Type 0
IsAssignable values nodes l =
    (variable_of l < length values) × (variable_of l < length nodes)
    × (slice_index_or values (variable_of l) None ≡ None)

-- the literal is true, at the current level and for the reason
abbrev pub enqueued : View → Literal → Reason → View
enqueued s l r =
    record s {
      values = slice_set s.values (variable_of l) (Some (polarity_of l));
      trail = s.trail ++ l ∷ [];
      nodes =
          slice_set s.nodes (variable_of l)
          (record { reason = r; level = length s.decisions; depth = suc (length s.trail) });
    }

-- With whatever clauses, the parts become those in which the literal is true, at the current level and for the reason.
abbrev pub Enqueues : {A : Type 0} → Values → Values → TrailParts → TrailParts → ImplGraph A → ImplGraph A → Literal →
    Reason → Type 0
Enqueues values values' trail trail' graph graph' l r =
    (clauses : Store) (binary : List (List Literal)) →
    view_of clauses binary values' trail' graph' ≡ enqueued (view_of clauses binary values trail graph) l r

-- the literal is decided, and is still to be propagated
abbrev pub decided_on : View → Literal → View
decided_on s l = enqueued (record s { decisions = s.decisions ++ length s.trail ∷ [] }) l reason.Unit
