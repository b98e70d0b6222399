use Rattle.std.proofs.Common.{length}
use Rattle.varisat_search.specs.AssumptionParts.{TakesOutTrue}
use Rattle.varisat_search.proofs.assumptions.next_assumption.Given as goal

abbrev pub invariant-implied : goal.invariant-implied
invariant-implied g l = TakesOutTrue l.assignment.current l.level l.fn.assumptions l.assumptions

abbrev pub decreases-implied : goal.decreases-implied
decreases-implied g l = length l.assumptions.working
