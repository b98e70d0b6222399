use Rattle.std.proofs.Common.{subst}
use Rattle.varisat_calls.specs.Callers.{Caller, ShowsHidden}
use Rattle.varisat_c.proofs.caller_observe.Goals as goal

pub returns : goal.returns
returns c = rw (c.take-caller.ensures.value, c.put.ensures)
    (subst (λ (g : Caller). ShowsHidden g c.observe-answer.result c.observe-answer.new.self) c.deref_mut.ensures.value
    c.observe-answer.ensures)
