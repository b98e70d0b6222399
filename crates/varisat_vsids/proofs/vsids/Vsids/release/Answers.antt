use Rattle.std.proofs.Common.{◌≡◌, ℕ, ◌+◌, ◌/◌, ◌<◌, ◌∙◌, sym, ap, arith, length, get_or, set, refl, true}
use Rattle.std.specs.Prelude.{min}
use Rattle.std.proofs.lemmas.List.{with_items_is, length-map}
use Rattle.varisat_vsids.specs.Heaps.{availability}
use Rattle.varisat_vsids.specs.Activities.{with_available}
use Rattle.varisat_vsids.proofs.HeapView.{activities_with, of_variable, read_at, same_heap, stands_available}
use Rattle.varisat_vsids.proofs.IdleVariables.{idle_stands, idle_waits, same_idle}
use Rattle.varisat_vsids.proofs.vsids.Vsids.release.Goals as goal

pub invariant_of-self-2 : goal.invariant_of-self-2
invariant_of-self-2 g c =
    let s = c.self.inside in
    let i = c.self.invariant in
    let known : c.args.var < length s.heap.items = omega (arith, i.0.known, c.requires, ap (λ a. length a.activity) c.self.view_is) in
    let heaps = with_items_is s.heap c.put_in.new.heap (omega (arith, c.put_in.auto.heap, c.deref_mut-2.ensures.len)) in
    let places = with_items_is s.position c.put_in.new.position (omega (arith, c.put_in.auto.position, c.deref_mut-3.ensures.len)) in
    let standing : availability (s.len + 1) c.put_in.new.position ≡ set (availability s.len s.position.items) c.args.var true =
    of_variable s.len (s.len + 1) s.heap.items s.position.items c.deref_mut-2.result.now c.deref_mut-3.result.now
    c.put_in.new.position c.index.result.now c.index-index.result c.args.var true
    i.0.linked c.deref_mut-2.ensures.value c.deref_mut-3.ensures.value known c.index-index.ensures.index c.index.ensures
    c.put_in.ensures.available in (
      same_heap s.activity.items s.activity.items c.put_in.new.heap _ c.put_in.new.position _ (s.len + 1)
          (rw c.deref.ensures.value at c.put_in.ensures.heap) refl heaps places,
      i.1,
      same_idle s.activity.items _ (set (availability s.len s.position.items) c.args.var true) _ (set s.available.items c.args.var true) _
          s.blocks.items _ s.cursor
          (idle_stands s.activity.items s.activity.items (availability s.len s.position.items) s.available.items s.blocks.items s.cursor c.args.var i.2
          (rw length-map (omega (arith, known, i.0.linked.count))) (omega (arith, known, i.2.count, i.0.known)) refl (λ u n. refl))
          refl (ap (availability (s.len + 1)) places ∙ standing)
          (ap (λ (v : ℕ). set s.available.items v true) c.index-index.ensures.index) refl,
    )

pub invariant_of-self : goal.invariant_of-self
invariant_of-self g c =
    let s = c.self.inside in
    let i = c.self.invariant in
    let v = c.index-index.result in
    let known : v < length s.activity.items = omega (arith, c.index-index.ensures.index, c.requires, ap (λ a. length a.activity) c.self.view_is) in
    let zero : get_or s.activity.items v 0 ≡ 0 =
    sym (read_at s.activity.items v v c.index-then-waits.result.now known refl c.index-then-waits.ensures) ∙ c.if-index-eq0.true in
    let noted = with_items_is s.blocks c.note_block.new.blocks (omega (arith, c.note_block.auto.blocks, c.deref_mut.ensures.len))
    ∙ c.note_block.ensures ∙ ap (λ xs. set xs (v / 64) true) c.deref_mut.ensures.value in (
      i.0,
      i.1,
      rw c.min-self-inside.ensures (same_idle s.activity.items s.activity.items (availability s.len s.position.items) _ (set s.available.items v true) _
          (set s.blocks.items (v / 64) true) _ (min s.cursor v)
          (idle_waits s.activity.items (availability s.len s.position.items) s.available.items s.blocks.items s.cursor v i.2
          (rw length-map (omega (arith, known, i.0.known, i.0.linked.count))) (omega (arith, known, i.2.count)) zero) refl refl refl noted),
    )

pub returns-then-place-self : goal.returns-then-place-self
returns-then-place-self g c =
    let s = c.self.inside in
    let i = c.self.invariant in
    let v = c.index-index.ensures.index in
    let known : c.index-index.result < length s.position.items =
    omega (arith, v, c.requires, ap (λ a. length a.activity) c.self.view_is, i.0.known, i.0.linked.count) in
    let same = stands_available s.activity.items s.position.items s.available.items s.blocks.items s.len s.cursor c.index-index.result
    c.index.result.now i.2 known c.index.ensures c.if-place-self.true in
    sym c.self.view_is ∙ ap (λ x. activities_with s.activity.items x s.increment s.decay) (sym same ∙ ap (λ w. set s.available.items w true) v)
    ∙ ap (with_available c.args.var true) c.self.view_is
