-- The new solver is made as it is asked for.
use Rattle.varisat.proofs.deciding.decide_text.Goals as goal

pub decide_in-report-requires-clause-checks : goal.decide_in-report-requires-clause-checks
decide_in-report-requires-clause-checks g c = c.new_solver-solver.ensures.checks
