-- Out of memory leaves no way back.
use Rattle.std.proofs.Common.{◌<◌, not, refl, sym, ap, subst, length, Err, arith}
use Rattle.varisat_theory.specs.promises.Literals.{variable_of}
use Rattle.varisat_literals.specs.promises.Numbers.{variable_limit}
use Rattle.varisat_tracer.specs.inside.Tracing.{tracer_state}
use Rattle.varisat_solver.specs.promises.Calls.{SetsPhase}
use Rattle.varisat_solver.proofs.calls.CallStates.{broken, broken-unlogged, represents-valid}
use Rattle.varisat_solver.proofs.calls.ChangeEnds.{represents-broken}
use Rattle.varisat_solver.proofs.solver.Solver.set_phase.Goals as goal

pub returns-in-Err : goal.returns-in-Err
returns-in-Err g c s st =
    let q = rw (← c.self.view_is) at st in
    let valid = represents-valid _ s q (ap not c.in_ok-ensure_valid.ensures) in
    let inside = c.self.inside in
    let words = length inside.ctx.clause_alloc.words in
    let small : variable_of c.args.lit < variable_limit = omega (arith, c.index.ensures.index, c.max_count.ensures, c.if-index-max_count.false) in (
      broken s.proof words s,
      subst (λ e. SetsPhase s c.args.lit (Err e) (broken s.proof words s)) (sym c.invalidate.ensures.logged) (small, broken-unlogged s words valid),
      represents-broken (tracer_state inside.tracer) (tracer_state inside.tracer) inside.started inside.changed_at inside.changed_at inside.ctx inside.ctx
          c.invalidate.new.ctx s s.proof q c.invalidate.ensures.invalid refl refl refl refl q.same,
    )
