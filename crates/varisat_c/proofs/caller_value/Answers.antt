use Rattle.std.proofs.Common.{subst}
use Rattle.std.proofs.Math.Facts.{to_z-of_z}
use Rattle.varisat_calls.specs.Callers.{Caller}
use Rattle.varisat_calls.specs.Lookups.{LooksUpValue}
use Rattle.varisat_c.proofs.caller_value.Goals as goal

pub returns : goal.returns
returns c = rw (c.take-caller.ensures.value, c.put.ensures)
    (subst (λ (g : Caller). LooksUpValue c.args.number g c.value-answer.result c.value-answer.new.self) c.deref_mut.ensures.value
    (subst (λ n. LooksUpValue n c.deref_mut.result.now c.value-answer.result c.value-answer.new.self) (to_z-of_z c.ranges.number) c.value-answer.ensures))
