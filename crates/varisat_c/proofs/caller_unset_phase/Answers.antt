use Rattle.std.proofs.Common.{subst}
use Rattle.std.proofs.Math.Facts.{to_z-of_z}
use Rattle.varisat_calls.specs.Callers.{Caller, UnsetsPhaseNumbered}
use Rattle.varisat_c.proofs.caller_unset_phase.Goals as goal

pub returns : goal.returns
returns c = rw (c.take-caller.ensures.value, c.put.ensures)
    (subst (λ (g : Caller). UnsetsPhaseNumbered c.args.variable g c.unset_phase-answer.result c.unset_phase-answer.new.self) c.deref_mut.ensures.value
    (subst (λ n. UnsetsPhaseNumbered n c.deref_mut.result.now c.unset_phase-answer.result c.unset_phase-answer.new.self) (to_z-of_z c.ranges.variable) c.unset_phase-answer.ensures))
