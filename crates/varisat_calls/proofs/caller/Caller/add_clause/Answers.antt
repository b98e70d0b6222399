use Rattle.std.proofs.Common.{◌∙◌, refl, ap, Ok}
use Rattle.varisat_solver.specs.promises.Calls.{AddsClause}
use Rattle.varisat_calls.specs.Callers.{Zero, NoRoom}
use Rattle.varisat_calls.proofs.Making.{call-over}
use Rattle.varisat_calls.proofs.caller.Caller.add_clause.Goals as goal

pub returns-in-Ok-true : goal.returns-in-Ok-true
returns-in-Ok-true g c = rw (← c.self.view_is)
    (call-over c.args.numbers.now _ AddsClause _ _ _ _ c.add_clause-added.result (c.in-Ok-true.ensures.sound (ap Ok c.in-Ok-true.field-0-test))
    (c.deref.ensures.value ∙ c.in-Ok-true.ensures.literals (ap Ok c.in-Ok-true.field-0-test)) c.answer.ensures.number c.answer.ensures.frame
    c.add_clause-added.ensures.call refl)

pub returns-in-Ok-false : goal.returns-in-Ok-false
returns-in-Ok-false g c = rw (← c.self.view_is) (Zero (c.in-Ok-false.ensures.zero (ap Ok c.in-Ok-false.field-0-test)) (refl, refl))

pub returns-in-Err : goal.returns-in-Err
returns-in-Err g c = rw (← c.self.view_is) (NoRoom c.refuse.ensures.number c.refuse.ensures.frame)
