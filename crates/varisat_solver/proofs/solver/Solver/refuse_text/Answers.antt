-- Out of memory leaves no way back, and any other fault changes nothing.
use Rattle.std.proofs.Common.{◌∙◌, refl, sym, ap, length, Err}
use Rattle.varisat_solver.specs.promises.Additions.{MemoryFault, Fault}
use Rattle.varisat_tracer.specs.inside.Tracing.{tracer_state}
use Rattle.varisat_solver.proofs.calls.CallStates.{broken, broken-unlogged}
use Rattle.varisat_solver.proofs.calls.ChangeEnds.{represents-broken}
use Rattle.varisat_solver.proofs.solver.Solver.refuse_text.Goals as goal

pub returns-in-OutOfMemory-clause-call : goal.returns-in-OutOfMemory-clause-call
returns-in-OutOfMemory-clause-call g c s st v =
    let q = rw (← c.self.view_is) at st in
    let f = q.fits (sym (ap (λ x. x.valid) q.ledger) ∙ v) in
    let inside = c.self.inside in
    let words = length inside.ctx.clause_alloc.words in (
      broken s.proof words s,
      MemoryFault c.args.fault refl c.in-OutOfMemory.is (ap Err c.invalidate.ensures.logged) (broken-unlogged s words v),
      represents-broken (tracer_state inside.tracer) (tracer_state inside.tracer) inside.started inside.changed_at inside.changed_at inside.ctx inside.ctx
          c.invalidate.new.ctx s s.proof q c.invalidate.ensures.invalid refl refl refl refl q.same,
    )

pub returns-clause-call : goal.returns-clause-call
returns-clause-call g c s st v = (s, Fault c.args.fault refl c.in_default.not-OutOfMemory refl refl, st)

pub returns-in-OutOfMemory-clause-same : goal.returns-in-OutOfMemory-clause-same
returns-in-OutOfMemory-clause-same g c = rw (← c.self.view_is) refl
