use Rattle.std.proofs.lemmas.Grind.{common_steps}
use Rattle.std.proofs.Common.{ℕ, ◌≡◌, ◌*◌, ◌/◌, ◌^◌, ◌∙◌, ap, arith, map, refl, false}
use Rattle.std.proofs.lemmas.List.{with_items_is}
use Rattle.std.specs.Vec.{with_items}
use Rattle.varisat_vsids.specs.Heaps.{availability}
use Rattle.varisat_vsids.proofs.HeapView.{same_heap}
use Rattle.varisat_vsids.proofs.ActivityLimits.{decayed_is, decayed_small, same_limits, shifted_heap, shifted_limits, under}
use Rattle.varisat_vsids.proofs.IdleVariables.{idle_shifted, same_idle}
use Rattle.varisat_vsids.proofs.vsids.Vsids.decay.Goals as goal

pub invariant_of-self : goal.invariant_of-self
invariant_of-self g c =
    let s = c.self.inside in
    let h = c.self.invariant.0 in
    let w = c.self.invariant.1 in
    let shifts : (with_items s.activity c.rescale-self-inside.new.activity).items ≡ map (λ x. x / 2 ^ 40) s.activity.items =
    with_items_is s.activity c.rescale-self-inside.new.activity (omega (arith, c.rescale-self-inside.auto.activity, c.deref_mut.ensures.len))
    ∙ c.rescale-self-inside.ensures.activity ∙ ap (map (λ (x : ℕ). x / 2 ^ 40)) c.deref_mut.ensures.value in (
      same_heap (map (λ x. x / 2 ^ 40) s.activity.items) _ s.heap.items _ s.position.items _ s.len
          (shifted_heap s.activity.items s.heap.items s.position.items s.len h) shifts refl refl,
      same_limits (map (λ x. x / 2 ^ 40) s.activity.items) _ _ _ s.decay
          (shifted_limits s.activity.items (s.increment * 1000 / s.decay) s.decay (λ v. omega (arith, w.below v))
          (decayed_small s.increment s.decay w.small) w.slow w.fast)
          shifts c.rescale-self-inside.ensures.increment,
      same_idle (map (λ x. x / 2 ^ 40) s.activity.items) _ (availability s.len s.position.items) _ s.available.items _ s.blocks.items _ s.cursor
          (idle_shifted s.activity.items (availability s.len s.position.items) s.available.items s.blocks.items s.cursor c.self.invariant.2)
          shifts refl refl refl,
    )

pub returns-else-self-ge-ACTIVITY_LIMIT-clause-decayed : goal.returns-else-self-ge-ACTIVITY_LIMIT-clause-decayed
returns-else-self-ge-ACTIVITY_LIMIT-clause-decayed g c =
    let s = c.self.inside in
    rw (← c.self.view_is) (decayed_is false s.activity.items s.available.items s.increment s.decay c.self.invariant.1
    (under (s.increment * 1000 / s.decay) (omega arith)))

pub returns-then-self-ge-ACTIVITY_LIMIT-clause-decayed : goal.returns-then-self-ge-ACTIVITY_LIMIT-clause-decayed
returns-then-self-ge-ACTIVITY_LIMIT-clause-decayed g c = grind (arith, common_steps)

pub returns-then-self-ge-ACTIVITY_LIMIT-clause-count : goal.returns-then-self-ge-ACTIVITY_LIMIT-clause-count
returns-then-self-ge-ACTIVITY_LIMIT-clause-count g c = grind (arith, common_steps)
