use Rattle.std.proofs.Common.{◌≡◌, refl, ap, ◌∙◌}
use Rattle.varisat_incremental.specs.Reconstructions.{Reconstruction}
use Rattle.varisat_incremental.proofs.TakingLemmas.{at-ok, reduces-made, reduces-same}
use Rattle.varisat_incremental.proofs.reconstruction.Reconstruction.reduce.Goals as goal

pub returns : goal.returns
returns g c =
    let made = c.in_ok-made.ensures {u = tt} in
    reduces-made c.args.formula c.in_ok-made.made.formula c.in_ok-made.made.stack c.in_ok-made.made.history.lines c.deref.result.now c.args.self.now c.save.new.self
    made.made (at-ok c.simplify_with.result c.in_ok-made.made _ c.in_ok-made.was (c.simplify_with.ensures.implied refl)) made.frozen (c.deref.ensures.value ∙ ap (λ (r : Reconstruction). r.frozen) c.self.view_is) (c.in_ok-save.ensures {u = tt})
