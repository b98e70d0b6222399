-- The clauses so far are accepted; with those that are left they are the formula's.
use Rattle.std.proofs.Common.{◌≡◌, ◌++◌, map, Ok}
use Rattle.varisat_solver.specs.promises.States.{State}
use Rattle.varisat_solver.specs.promises.Calls.{by_state}
use Rattle.varisat_solver.specs.promises.Additions.{AddsAll}
use Rattle.varisat_solver.specs.inside.Representations.{Represents}
use Rattle.varisat_solver.specs.promises.Targets.{WritesAll}
use Rattle.varisat_solver.proofs.solver.Solver.add_clauses.Given as goal

abbrev pub invariant-loop-clause : goal.invariant-loop-clause
invariant-loop-clause g l = record {
  target : WritesAll l.initial.self.opened l.self.opened;
  so_far : (s : State) → Represents l.initial.self s → (t : State) × AddsAll by_state s (map (λ c. c.now) l.yielded) (Ok tt) t × Represents l.self t;
  whole : map (λ c. c.now) l.yielded ++ l.clause-iterator ≡ l.fn.formula.clauses;
}
