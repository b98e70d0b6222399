use Rattle.varisat_wcnf.proofs.Printing.{when-some, when-none, when-failed, when-err, solved, unsatisfied, unknown, broken-off}
use Rattle.varisat_wcnf.proofs.program.solve_problem.Goals as goal

pub returns-in-Ok-Ok-Some : goal.returns-in-Ok-Ok-Some
returns-in-Ok-Ok-Some g c =
    let (found, improve, said) = c.optimize_printing.ensures in
    let (bytes, faults, (answer, last)) = when-some _ _ _ _ _ _ _ _ _ _ _ c.in-Ok-Ok-Some.is c.in-Ok-Ok-Some.field-0-is c.in-Ok-Ok-Some.field-0-0-is said in
    solved c.args.problem.now c.in-Ok-Ok-Some.solution.is_optimum c.in-Ok-Ok-Some.solution.cost c.in-Ok-Ok-Some.solution.values.items found
    (g.T.ProofTarget.taken c.args.out.now) (g.T.ProofTarget.taken c.optimize_printing.new.out) (g.T.ProofTarget.taken c.print_solution.new.out) c.print_solution.result improve last answer bytes faults c.print_solution.ensures

pub returns-in-Ok-Ok-None : goal.returns-in-Ok-Ok-None
returns-in-Ok-Ok-None g c =
    let (found, improve, said) = c.optimize_printing.ensures in
    let (bytes, faults, (unsat, none)) = when-none _ _ _ _ _ _ _ _ _ _ c.in-Ok-Ok-None.is c.in-Ok-Ok-None.field-0-is c.in-Ok-Ok-None.field-0-0-is said in
    unsatisfied c.args.problem.now found (g.T.ProofTarget.taken c.args.out.now) (g.T.ProofTarget.taken c.optimize_printing.new.out) (g.T.ProofTarget.taken c.print_answer.new.out) c.print_answer.result unsat none bytes faults c.print_answer.ensures

pub returns-in-Ok-Err : goal.returns-in-Ok-Err
returns-in-Ok-Err g c =
    let (found, improve, said) = c.optimize_printing.ensures in
    let (bytes, faults, on, none) = when-failed _ _ _ _ _ _ _ _ _ _ c.in-Ok-Err.is c.in-Ok-Err.field-0-is said in
    unknown c.args.problem.now found (g.T.ProofTarget.taken c.args.out.now) (g.T.ProofTarget.taken c.optimize_printing.new.out) (g.T.ProofTarget.taken c.print_answer-in-Ok-Err.new.out) c.print_answer-in-Ok-Err.result (none on)
    bytes faults c.print_answer-in-Ok-Err.ensures

pub returns-in-Err : goal.returns-in-Err
returns-in-Err g c =
    let (found, improve, said) = c.optimize_printing.ensures in
    broken-off c.args.problem.now found (g.T.ProofTarget.taken c.args.out.now) (g.T.ProofTarget.taken c.optimize_printing.new.out) c.tell.result improve (when-err _ _ _ _ _ _ _ _ c.in-Err.error c.in-Err.is said) c.tell.ensures
