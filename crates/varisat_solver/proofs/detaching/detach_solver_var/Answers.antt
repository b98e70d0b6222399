use Rattle.std.proofs.Common.{sym, subst, arith}
use Rattle.varisat_names.specs.promises.Variables.{Tables}
use Rattle.varisat_tracer.specs.inside.Tracing.{tracer_state}
use Rattle.varisat_solver.specs.inside.Detached.{LosesSolverVar}
use Rattle.varisat_solver.proofs.leaving.DetachedAlone.{taken-live}
use Rattle.varisat_solver.proofs.detaching.detach_solver_var.Goals as goal

pub retire_var_if_unused-requires : goal.retire_var_if_unused-requires
retire_var_if_unused-requires g c =
    let n = c.in_ok-global.ensures.dropped in
    let here = taken-live c.args.tracer.now.tables c.args.solver c.in_ok-global.global c.prove_linked.ensures n.taken in
    let count = n.kept.count in
    omega (arith, here, count)

pub returns-clause-dropped : goal.returns-clause-dropped
returns-clause-dropped g c =
    let x = c.in_ok-global.global in
    let before = tracer_state c.args.tracer.now in
    let proof = c.retire_var_if_unused.new.self.proof in (
      x,
      subst (λ (t : Tables). LosesSolverVar x c.args.solver before (record { tables = t; proof = proof }))
          (sym c.retire_var_if_unused.ensures.variables) (record { dropped = c.in_ok-global.ensures.dropped; logged = c.retire_var_if_unused.ensures.logged }),
    )
