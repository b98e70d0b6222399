-- Which literals are fixed: those that are true at level 0 of the search, and those whose variables left the search with their values.
use Rattle.std.specs.Prelude.{◌≡◌, ℕ, Bool, true, Option, Some, None, slice_index_or}
use Rattle.varisat_theory.specs.promises.Literals.{Literal, variable_of}
use Rattle.varisat_literals.specs.promises.Numbers.{polarity_of}
use Rattle.varisat_names.specs.promises.VarMap.{at}
use Rattle.varisat_names.specs.promises.VarData.{data_at}
use Rattle.varisat_names.specs.promises.Variables.{Tables}
use Rattle.varisat_prop.specs.View.{View, no_node}
use Rattle.varisat_solver.specs.promises.Summaries.{Summary}

-- the solver variable has the value at level 0
abbrev pub HasRootValue : View → ℕ → Bool → Type 0
HasRootValue s v b = (slice_index_or s.values v None ≡ Some b) × ((slice_index_or s.nodes v no_node).level ≡ 0)

-- The value of the global variable is fixed to this one, where its solver variable is given, if it has one: that has the value at level 0;
-- without one it is the value that is kept.
abbrev pub IsFixedTo : Tables → View → ℕ → Bool → Option ℕ → Type 0
IsFixedTo t s x b None = (data_at t.kept x).unit ≡ Some b
IsFixedTo t s x b (Some v) = HasRootValue s v b

-- There is a global variable, and its value is fixed to this one.
abbrev pub IsNameFixedTo : Tables → View → Bool → Option ℕ → Type 0
IsNameFixedTo t s b None = ⊥
IsNameFixedTo t s b (Some x) = IsFixedTo t s x b (at t.solvers.forward x)

-- The solver is valid, and the literal is of a name in use, the value of whose variable is fixed so that it is true.
abbrev pub HasFixed : Summary → Literal → Type 0
HasFixed g l =
    (g.ledger.valid ≡ true)
    × IsNameFixedTo g.tables g.search (polarity_of l) (at g.tables.users.forward (variable_of l))
