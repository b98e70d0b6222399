use Rattle.std.proofs.Common.{subst}
use Rattle.std.proofs.Math.Facts.{to_z-of_z}
use Rattle.varisat_calls.specs.Callers.{Caller, TellsFixed}
use Rattle.varisat_c.proofs.caller_is_fixed.Goals as goal

pub returns-clause-fixed : goal.returns-clause-fixed
returns-clause-fixed c = rw (c.take-caller.ensures.value)
    (subst (λ (g : Caller). TellsFixed c.args.number g c.is_fixed-answer.result) c.deref.ensures
    (subst (λ n. TellsFixed n c.deref.result.now c.is_fixed-answer.result) (to_z-of_z c.ranges.number) c.is_fixed-answer.ensures))
