use Rattle.std.proofs.Common.{subst}
use Rattle.varisat_calls.specs.Callers.{Caller, ReturnsCore, ReturnsListOf}
use Rattle.varisat_c.proofs.caller_core.Goals as goal

pub returns : goal.returns
returns c = rw (c.take-caller.ensures.value, c.put.ensures)
    (subst (λ (g : Caller). ReturnsListOf ReturnsCore g c.core-answer.result c.core-answer.new.self) c.deref_mut.ensures.value
    c.core-answer.ensures)
