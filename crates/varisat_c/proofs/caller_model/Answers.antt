use Rattle.std.proofs.Common.{subst}
use Rattle.varisat_calls.specs.Callers.{Caller, ReturnsModel, ReturnsListOf}
use Rattle.varisat_c.proofs.caller_model.Goals as goal

pub returns : goal.returns
returns c = rw (c.take-caller.ensures.value, c.put.ensures)
    (subst (λ (g : Caller). ReturnsListOf ReturnsModel g c.model-answer.result c.model-answer.new.self) c.deref_mut.ensures.value
    c.model-answer.ensures)
