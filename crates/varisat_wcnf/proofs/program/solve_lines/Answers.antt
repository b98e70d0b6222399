use Rattle.std.proofs.Common.{refl, subst}
use Rattle.varisat_wcnf.specs.promises.Printed.{PrintsAnswer, Read, Refused}
use Rattle.varisat_wcnf.proofs.program.solve_lines.Goals as goal

pub returns-in-Ok : goal.returns-in-Ok
returns-in-Ok g c =
    let r = c.in-Ok.ensures.ok in
    Read r.0 r.1 (subst (λ p. PrintsAnswer p (g.T.ProofTarget.taken c.args.out.now) (g.T.ProofTarget.taken c.solve_problem.new.out) c.solve_problem.result)
    r.2 c.solve_problem.ensures)

pub returns-in-Err : goal.returns-in-Err
returns-in-Err g c = Refused c.in-Err.error c.in-Err.ensures.err refl c.tell_line.ensures
