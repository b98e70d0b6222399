-- The new solver is made as it is asked for.
use Rattle.varisat_solve.proofs.deciding.decide_formula.Goals as goal

pub decide_in-report-requires-clause-checks : goal.decide_in-report-requires-clause-checks
decide_in-report-requires-clause-checks g c = c.new_solver-solver.ensures.checks
