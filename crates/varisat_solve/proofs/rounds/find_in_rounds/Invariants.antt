use Rattle.std.proofs.Common.{◌-◌, ◌≤◌}
use Rattle.varisat_solver.specs.promises.States.{State}
use Rattle.varisat_solver.specs.inside.Representations.{Represents}
use Rattle.varisat_solve.proofs.SpentRounds.{WereSpent}
use Rattle.varisat_solve.proofs.rounds.find_in_rounds.Given as goal

abbrev pub invariant-rounds : goal.invariant-rounds
invariant-rounds g l = record {
  left : l.rest ≤ l.most;
  went : (s : State) → Represents l.fn.solver s → (m : State) × WereSpent (l.most - l.rest) s m × Represents l.solver m;
}

abbrev pub decreases-rounds : goal.decreases-rounds
decreases-rounds g l = l.rest
