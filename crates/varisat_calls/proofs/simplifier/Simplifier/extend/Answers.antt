use Rattle.std.proofs.Common.{◌∙◌, refl, ap, Ok}
use Rattle.varisat_calls.specs.Simplifiers.{NoRoom}
use Rattle.varisat_calls.proofs.SimplifierSteps.{extended-now}
use Rattle.varisat_calls.proofs.simplifier.Simplifier.extend.Goals as goal
use Rattle.varisat_calls.proofs.simplifier.Simplifier.extend.Goals.{in-Ok, in-Err-list_extended}

pub returns : goal.returns
returns g c = rw (← c.self.view_is)
    (elim c.match-list_extended.branch [
      | in-Ok w ↦ extended-now c.args.numbers.now c.self.inside.stack c.self.inside.formula c.self.inside.var_count _ _ _ _ _ c.in-Some.stack c.deref.result.now
          (c.in-Ok-true.ensures.sound (ap Ok c.in-Ok-true.field-0-test))
          (c.deref.ensures.value ∙ c.in-Ok-true.ensures.literals (ap Ok c.in-Ok-true.field-0-test))
          c.in-Some.is c.self.invariant w.result-is (w.in-Ok.ensures {u = tt})
      | in-Err-list_extended w ↦ NoRoom w.result-is refl
    ])
