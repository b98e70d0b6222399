use Rattle.std.proofs.Common.{subst}
use Rattle.std.proofs.Math.Facts.{to_z-of_z}
use Rattle.varisat_calls.specs.Callers.{Caller, SetsPhaseNumbered}
use Rattle.varisat_c.proofs.caller_set_phase.Goals as goal

pub returns : goal.returns
returns c = rw (c.take-caller.ensures.value, c.put.ensures)
    (subst (λ (g : Caller). SetsPhaseNumbered c.args.number g c.set_phase-answer.result c.set_phase-answer.new.self) c.deref_mut.ensures.value
    (subst (λ n. SetsPhaseNumbered n c.deref_mut.result.now c.set_phase-answer.result c.set_phase-answer.new.self) (to_z-of_z c.ranges.number) c.set_phase-answer.ensures))
