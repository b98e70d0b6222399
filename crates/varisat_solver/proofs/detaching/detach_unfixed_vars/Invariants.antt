use Rattle.std.proofs.Common.{◌≡◌, take}
use Rattle.varisat_tracer.specs.inside.Tracing.{tracer_state, open_parts}
use Rattle.varisat_solver.specs.inside.Detached.{AreDetached, DetachesFromTables}
use Rattle.varisat_solver.proofs.detaching.detach_unfixed_vars.Given as goal

abbrev pub invariant-loop-lit : goal.invariant-loop-lit
invariant-loop-lit g l = AreDetached (take l.lit-index l.lits) (tracer_state l.fn.tracer) (tracer_state l.tracer)
    × DetachesFromTables (take l.lit-index l.lits) l.fn.tracer.tables l.tracer.tables
    × (open_parts l.tracer.proof ≡ open_parts l.fn.tracer.proof)
