use Rattle.std.proofs.Common.{◌∙◌, sym}
use Rattle.varisat_calls.proofs.SimplifierSteps.{simplified-now}
use Rattle.varisat_calls.proofs.simplifier.Simplifier.simplify.Goals as goal

pub returns-in-Ok : goal.returns-in-Ok
returns-in-Ok g c = rw (← c.self.view_is)
    (simplified-now c.self.inside.stack c.self.inside.formula c.in-Ok.field-0.formula _ _ _ _ _ c.deref.result.now _ c.in-Ok.field-0.stack c.in-Ok.field-0.history.lines
    (sym c.is_some.ensures ∙ c.if-is_some.false) c.var_count-self-inside.ensures.count (c.of-self-inside.ensures ∙ c.iter.ensures)
    c.in-Ok.ensures.made c.deref.ensures.value c.in-Ok.ensures.frozen c.in-Ok.ensures.shorter c.var_count-self-inside.ensures.below c.var_count-self-inside.ensures.small)
