use Rattle.std.proofs.Common.{subst}
use Rattle.varisat_calls.specs.Simplifiers.{Simplifier, Extends}
use Rattle.varisat_c.proofs.simplifier.simplifier_extend.Goals as goal

pub returns : goal.returns
returns c = rw (c.take-simplifier.ensures.value, c.put.ensures)
    (subst (λ (g : Simplifier). Extends c.args.numbers.now g c.extend-answer.result c.extend-answer.new.self) c.deref_mut.ensures.value
    c.extend-answer.ensures)
