use Rattle.std.proofs.Common.{subst}
use Rattle.varisat_calls.specs.Simplifiers.{Simplifier, Simplifies}
use Rattle.varisat_c.proofs.simplifier.simplifier_simplify.Goals as goal

pub returns : goal.returns
returns c = rw (c.take-simplifier.ensures.value, c.put.ensures)
    (subst (λ (g : Simplifier). Simplifies g c.simplify-answer.result c.simplify-answer.new.self) c.deref_mut.ensures.value
    c.simplify-answer.ensures)
