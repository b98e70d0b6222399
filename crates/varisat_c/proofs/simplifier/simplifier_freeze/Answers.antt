use Rattle.std.proofs.Common.{subst}
use Rattle.std.proofs.Math.Facts.{to_z-of_z}
use Rattle.varisat_calls.specs.Simplifiers.{Simplifier, Freezes}
use Rattle.varisat_c.proofs.simplifier.simplifier_freeze.Goals as goal

pub returns : goal.returns
returns c = rw (c.take-simplifier.ensures.value, c.put.ensures)
    (subst (λ (g : Simplifier). Freezes c.args.variable g c.freeze-answer.result c.freeze-answer.new.self) c.deref_mut.ensures.value
    (subst (λ v. Freezes v c.deref_mut.result.now c.freeze-answer.result c.freeze-answer.new.self) (to_z-of_z c.ranges.variable) c.freeze-answer.ensures))
