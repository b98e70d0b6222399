use Rattle.std.proofs.Common.{subst}
use Rattle.std.proofs.Math.Facts.{to_z-of_z}
use Rattle.varisat_calls.specs.Codes.{mode_numbered}
use Rattle.varisat_calls.specs.Callers.{Caller, SetsModeNumbered}
use Rattle.varisat_c.proofs.caller_set_mode.Goals as goal

pub returns : goal.returns
returns c = rw (c.take-caller.ensures.value, c.put.ensures)
    (subst (λ (g : Caller). SetsModeNumbered c.args.variable (mode_numbered c.args.mode) g c.set_mode-answer.result c.set_mode-answer.new.self) c.deref_mut.ensures.value
    (subst (λ v. SetsModeNumbered v (mode_numbered c.args.mode) c.deref_mut.result.now c.set_mode-answer.result c.set_mode-answer.new.self) (to_z-of_z c.ranges.variable)
    c.set_mode-answer.ensures))
