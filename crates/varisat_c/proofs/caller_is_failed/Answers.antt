use Rattle.std.proofs.Common.{subst}
use Rattle.std.proofs.Math.Facts.{to_z-of_z}
use Rattle.varisat_calls.specs.Callers.{Caller}
use Rattle.varisat_calls.specs.Lookups.{LooksUpFailed}
use Rattle.varisat_c.proofs.caller_is_failed.Goals as goal

pub returns : goal.returns
returns c = rw (c.take-caller.ensures.value, c.put.ensures)
    (subst (λ (g : Caller). LooksUpFailed c.args.number g c.is_failed-answer.result c.is_failed-answer.new.self) c.deref_mut.ensures.value
    (subst (λ n. LooksUpFailed n c.deref_mut.result.now c.is_failed-answer.result c.is_failed-answer.new.self) (to_z-of_z c.ranges.number) c.is_failed-answer.ensures))
