use Rattle.std.proofs.Common.{arith, length, ◌≡◌, ◌<◌, ◌∙◌, ap, refl}
use Rattle.std.proofs.lemmas.Grind.{common_steps, get_or_default_zero}
use Rattle.varisat_vsids.proofs.HeapView.{all_idle, idle_is_greatest, root_is_greatest}
use Rattle.std.proofs.lemmas.List.{with_items_is}
use Rattle.varisat_vsids.specs.Heaps.{availability}
use Rattle.varisat_vsids.proofs.IdleVariables.{idle_passed, same_idle}
use Rattle.varisat_vsids.proofs.vsids.Vsids.greatest.Goals as goal

pub returns-then-self-gt0-clause-greatest : goal.returns-then-self-gt0-clause-greatest
returns-then-self-gt0-clause-greatest g c =
    let s = c.self.inside in
    let h = c.self.invariant.0 in
    let some : 0 < length s.heap.items = omega (arith, h.part, c.if-self-gt0.true) in
    rw (← c.self.view_is) (root_is_greatest s.activity.items s.heap.items s.position.items s.available.items s.blocks.items s.len s.cursor
    c.index.result.now s.increment s.decay h c.self.invariant.2 c.if-self-gt0.true
    (c.index.ensures ∙ get_or_default_zero s.heap.items 0 c.index.result.now some))

pub first_available-self-inside-requires-clause-none : goal.first_available-self-inside-requires-clause-none
first_available-self-inside-requires-clause-none g c v q =
    let s = c.self.inside in
    (all_idle s.activity.items s.position.items s.available.items s.blocks.items s.len s.cursor v c.self.invariant.2
    (omega (arith, c.if-self-gt0.false)) (rw c.deref.ensures.value at q)).ahead

pub first_available-self-inside-requires-clause-blocks : goal.first_available-self-inside-requires-clause-blocks
first_available-self-inside-requires-clause-blocks g c v q =
    let s = c.self.inside in
    rw c.deref_mut.ensures.value (all_idle s.activity.items s.position.items s.available.items s.blocks.items s.len s.cursor v c.self.invariant.2
    (omega (arith, c.if-self-gt0.false)) (rw c.deref.ensures.value at q)).block

pub invariant_of-self : goal.invariant_of-self
invariant_of-self g c =
    let s = c.self.inside in
    let p = c.first_available-self-inside in
    let room : length p.new.blocks ≡ s.blocks.len = omega (arith, p.auto.blocks, c.deref_mut.ensures.len) in
    let long : length p.new.blocks ≡ length s.blocks.items = p.auto.blocks ∙ ap length c.deref_mut.ensures.value in (
      c.self.invariant.0,
      c.self.invariant.1,
      same_idle s.activity.items _ (availability s.len s.position.items) _ s.available.items _ p.new.blocks _ p.result
          (idle_passed s.activity.items (availability s.len s.position.items) s.available.items s.blocks.items p.new.blocks s.cursor p.result
          c.self.invariant.2 long (rw c.deref.ensures.value at p.ensures.within) (rw c.deref.ensures.value at p.ensures.none)
          (rw c.deref.ensures.value at p.ensures.blocks))
          refl refl refl (with_items_is s.blocks p.new.blocks room),
    )

pub invariant_of-self-2 : goal.invariant_of-self-2
invariant_of-self-2 g c =
    let s = c.self.inside in
    let p = c.first_available-self-inside in
    let room : length p.new.blocks ≡ s.blocks.len = omega (arith, p.auto.blocks, c.deref_mut.ensures.len) in
    let long : length p.new.blocks ≡ length s.blocks.items = p.auto.blocks ∙ ap length c.deref_mut.ensures.value in (
      c.self.invariant.0,
      c.self.invariant.1,
      same_idle s.activity.items _ (availability s.len s.position.items) _ s.available.items _ p.new.blocks _ p.result
          (idle_passed s.activity.items (availability s.len s.position.items) s.available.items s.blocks.items p.new.blocks s.cursor p.result
          c.self.invariant.2 long (rw c.deref.ensures.value at p.ensures.within) (rw c.deref.ensures.value at p.ensures.none)
          (rw c.deref.ensures.value at p.ensures.blocks))
          refl refl refl (with_items_is s.blocks p.new.blocks room),
    )

pub returns-clause-greatest : goal.returns-clause-greatest
returns-clause-greatest g c =
    let s = c.self.inside in
    let p = c.first_available-self-inside in
    let some : p.result < length c.deref.result.now = grind (arith, common_steps) in
    rw (← c.self.view_is, c.from_index.ensures) (idle_is_greatest s.activity.items s.position.items s.available.items s.blocks.items s.len s.cursor
    p.result s.increment s.decay c.self.invariant.2 (omega (arith, c.if-self-gt0.false))
    (omega (arith, some, c.self.invariant.2.count, c.deref.ensures.len)) (rw c.deref.ensures.value at (p.ensures.found some)))
