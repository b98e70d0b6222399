use Rattle.std.proofs.Common.{subst}
use Rattle.varisat_calls.specs.Codes.{format_numbered}
use Rattle.varisat_calls.specs.Callers.{Caller, OpensFormat}
use Rattle.varisat_c.proofs.caller_open_proof.Goals as goal

pub returns : goal.returns
returns c = rw (c.take-caller.ensures.value, c.put.ensures)
    (subst (λ (g : Caller). OpensFormat (format_numbered c.args.format) g c.open_proof-answer.result c.open_proof-answer.new.self) c.deref_mut.ensures.value
    c.open_proof-answer.ensures)
