use Rattle.std.proofs.Common.{subst}
use Rattle.varisat_calls.specs.Simplifiers.{Simplifier, ListsClauses}
use Rattle.varisat_c.proofs.simplifier.simplifier_clauses.Goals as goal

pub returns : goal.returns
returns c = rw (c.take-simplifier.ensures.value, c.put.ensures)
    (subst (λ (g : Simplifier). ListsClauses g c.clauses-answer.result c.clauses-answer.new.self) c.deref_mut.ensures.value
    c.clauses-answer.ensures)
