use Rattle.std.proofs.Common.{◌∙◌, refl, sym, ap, Ok, Err, true, false}
use Rattle.varisat_calls.proofs.Making.{made, never-ten, never-twenty}
use Rattle.varisat_calls.proofs.caller.Caller.solve.Goals as goal

pub returns-in-Ok-true : goal.returns-in-Ok-true
returns-in-Ok-true g c = rw (← c.self.view_is) (record {
  call = (Ok true, refl, record { call = rw c.in-Ok-true.field-0-test at c.in-Ok-true.ensures.call; rest = refl });
  satisfiable = λ e s st. c.in-Ok-true.ensures.satisfiable (ap Ok c.in-Ok-true.field-0-test) s st;
  unsatisfiable = λ e. absurd cc;
})

pub returns-in-Ok-false : goal.returns-in-Ok-false
returns-in-Ok-false g c = rw (← c.self.view_is) (record {
  call = (Ok false, refl, record { call = rw c.in-Ok-false.field-0-test at c.in-Ok-false.ensures.call; rest = refl });
  satisfiable = λ e. absurd cc;
  unsatisfiable = λ e s st. c.in-Ok-false.ensures.unsatisfiable (ap Ok c.in-Ok-false.field-0-test) s st;
})

pub returns-in-Err : goal.returns-in-Err
returns-in-Err g c = rw (← c.self.view_is) (record {
  call = (Err c.in-Err.error, c.refuse.ensures.number, made _ _ _ _ _ c.refuse.ensures.frame c.in-Err.ensures.call refl);
  satisfiable = λ e s st. absurd (never-ten _ _ c.in-Err.error (sym c.refuse.ensures.number ∙ e) c.in-Err.ensures.call s st);
  unsatisfiable = λ e s st sat. never-twenty c.in-Err.error (sym c.refuse.ensures.number ∙ e);
})
