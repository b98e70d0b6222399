use Rattle.std.proofs.Common.{subst}
use Rattle.std.proofs.Math.Facts.{to_z-of_z}
use Rattle.varisat_calls.specs.Callers.{Caller, PutsNumber}
use Rattle.varisat_c.proofs.caller_add.Goals as goal

pub returns : goal.returns
returns c = rw (c.take-caller.ensures.value, c.put.ensures)
    (subst (λ (g : Caller). PutsNumber c.args.number g c.add-answer.result c.add-answer.new.self) c.deref_mut.ensures.value
    (subst (λ n. PutsNumber n c.deref_mut.result.now c.add-answer.result c.add-answer.new.self) (to_z-of_z c.ranges.number) c.add-answer.ensures))
