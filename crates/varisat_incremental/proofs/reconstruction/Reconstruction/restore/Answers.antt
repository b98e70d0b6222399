use Rattle.std.proofs.Common.{◌≡◌, refl, ap, subst}
use Rattle.varisat_formula.specs.promises.Formulas.{Formula}
use Rattle.varisat_incremental.specs.Reconstructions.{Reconstruction, AreLedBy}
use Rattle.varisat_incremental.proofs.TakingLemmas.{restores-both}
use Rattle.varisat_incremental.proofs.reconstruction.Reconstruction.restore.Goals as goal

pub returns-then-are_led_by-clause-led : goal.returns-then-are_led_by-clause-led
returns-then-are_led_by-clause-led g c = subst (λ f. AreLedBy f c.in_ok-kept.kept) c.deref.ensures.value (c.if-are_led_by.ensures {u = tt} refl)

pub returns-clause-restores : goal.returns-clause-restores
returns-clause-restores g c =
    let r : Reconstruction = record { stack = c.self.inside.stack; eliminated = c.self.inside.eliminated.items; frozen = c.self.inside.frozen.items } in
    let s : Reconstruction = record { stack = c.in_ok-none.none; eliminated = c.restore_from-2.new.flags.items; frozen = c.self.inside.frozen.items } in
    rw (← c.self.view_is) (restores-both r s c.new_in-restored.result.clauses c.in_ok-kept.kept c.restore_from.new.restored.clauses c.restore_from-2.new.restored.clauses
    c.restore_from.new.flags.items (ap (λ (f : Formula). f.clauses) c.new_in-restored.ensures) (c.in_ok-kept.ensures {u = tt}).restores
    (c.in_ok-none.ensures {u = tt}).restores refl)
