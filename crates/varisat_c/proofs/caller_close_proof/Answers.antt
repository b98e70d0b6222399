use Rattle.std.proofs.Common.{subst}
use Rattle.varisat_calls.specs.Callers.{Caller, ClosesNumbered}
use Rattle.varisat_c.proofs.caller_close_proof.Goals as goal

pub returns : goal.returns
returns c = rw (c.take-caller.ensures.value, c.put.ensures)
    (subst (λ (g : Caller). ClosesNumbered g c.close_proof-answer.result c.close_proof-answer.new.self) c.deref_mut.ensures.value
    c.close_proof-answer.ensures)
