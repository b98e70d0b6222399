use Rattle.std.proofs.Common.{◌∙◌, refl, sym, ap, Some, Err}
use Rattle.std.specs.Prelude.{is_some}
use Rattle.varisat_client.proofs.Moving.{finds-model, finds-core, spends-steps, search-fails}
use Rattle.varisat_client.proofs.client.Client.seek.Goals as goal

pub returns-in-Ok-true : goal.returns-in-Ok-true
returns-in-Ok-true g c = rw (← c.self.view_is)
    (λ free still. finds-model _ _ _ _ (ap is_some free) still refl (rw c.in-Ok-true.field-0-test at c.in-Ok-true.ensures.call)
    c.keep_model.ensures)

pub returns-in-Ok-false : goal.returns-in-Ok-false
returns-in-Ok-false g c = rw (← c.self.view_is)
    (λ free still. finds-core _ _ _ _ (ap is_some free) still refl (rw c.in-Ok-false.field-0-test at c.in-Ok-false.ensures.call)
    c.keep_core.ensures)

pub returns-in-Err-Interrupted : goal.returns-in-Err-Interrupted
returns-in-Err-Interrupted g c = rw (← c.self.view_is)
    (λ free still. spends-steps _ _ (ap is_some free) still refl
    (rw c.in-Err-Interrupted.field-0-is at c.in-Err-Interrupted.ensures.call))

pub returns-in-Err : goal.returns-in-Err
returns-in-Err g c = rw (← c.self.view_is)
    (λ free still. search-fails _ _ _ (ap is_some free) c.in-Err.ensures.call (λ e. c.in-Err.ensures.full (ap Err e))
    (ap Some c.refusal_for.ensures))
