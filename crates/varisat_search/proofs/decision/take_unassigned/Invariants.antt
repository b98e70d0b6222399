use Rattle.std.specs.List.{count_by}
use Rattle.varisat_search.proofs.variables.TakenVariables.{Taking}
use Rattle.varisat_search.proofs.decision.take_unassigned.Given as goal

abbrev pub invariant-taking : goal.invariant-taking
invariant-taking g l = Taking l.assignment.current l.fn.vsids l.vsids

abbrev pub decreases-taking : goal.decreases-taking
decreases-taking g l = count_by (λ b. b) l.vsids.available
