use Rattle.std.proofs.Common.{◌≡◌, ℕ, ◌-◌, ◌<◌, ◌∙◌, ap, arith, length, set, refl, sym, Bool, false}
use Rattle.std.proofs.lemmas.List.{with_items_is, length-map, set-get_or}
use Rattle.varisat_vsids.specs.Heaps.{availability}
use Rattle.varisat_vsids.proofs.HeapView.{none_available, of_variable, same_heap}
use Rattle.varisat_vsids.proofs.IdleVariables.{idle_gone, same_idle}
use Rattle.varisat_vsids.proofs.vsids.Vsids.make_unavailable.Goals as goal

pub invariant_of-self : goal.invariant_of-self
invariant_of-self g c =
    let s = c.self.inside in
    let i = c.self.invariant in
    let t = availability s.len s.position.items in
    let known : c.args.var < length s.heap.items = omega (arith, i.0.known, c.requires, ap (λ a. length a.activity) c.self.view_is) in
    let same : set t c.args.var false ≡ t =
    ap (λ (y : Bool). set t c.args.var y) (sym (none_available s.len s.position.items c.if-self-eq0.true c.args.var)) ∙ set-get_or t c.args.var false in (
      i.0,
      i.1,
      same_idle s.activity.items _ (set t c.args.var false) _ (set s.available.items c.args.var false) _ s.blocks.items _ s.cursor
          (idle_gone s.activity.items t s.available.items s.blocks.items s.cursor c.args.var i.2
          (rw length-map (omega (arith, known, i.0.linked.count))) (omega (arith, known, i.2.count, i.0.known)))
          refl (sym same) (ap (λ (v : ℕ). set s.available.items v false) c.index-index.ensures.index) refl,
    )

pub invariant_of-self-then-place-self : goal.invariant_of-self-then-place-self
invariant_of-self-then-place-self g c =
    let s = c.self.inside in
    let i = c.self.invariant in
    let known : c.args.var < length s.heap.items = omega (arith, i.0.known, c.requires, ap (λ a. length a.activity) c.self.view_is) in
    let heaps = with_items_is s.heap c.take_out.new.heap (omega (arith, c.take_out.auto.heap, c.deref_mut.ensures.len)) in
    let places = with_items_is s.position c.take_out.new.position
    (omega (arith, c.take_out.auto.position, c.deref_mut-then-place-self.ensures.len)) in
    let standing : availability (s.len - 1) c.take_out.new.position ≡ set (availability s.len s.position.items) c.args.var false =
    of_variable s.len (s.len - 1) s.heap.items s.position.items c.deref_mut.result.now c.deref_mut-then-place-self.result.now
    c.take_out.new.position c.index.result.now c.index-index.result c.args.var false
    i.0.linked c.deref_mut.ensures.value c.deref_mut-then-place-self.ensures.value known c.index-index.ensures.index c.index.ensures
    c.take_out.ensures.available in (
      same_heap s.activity.items s.activity.items c.take_out.new.heap _ c.take_out.new.position _ (s.len - 1)
          (rw c.deref.ensures.value at c.take_out.ensures.heap) refl heaps places,
      i.1,
      same_idle s.activity.items _ (set (availability s.len s.position.items) c.args.var false) _ (set s.available.items c.args.var false) _
          s.blocks.items _ s.cursor
          (idle_gone s.activity.items (availability s.len s.position.items) s.available.items s.blocks.items s.cursor c.args.var i.2
          (rw length-map (omega (arith, known, i.0.linked.count))) (omega (arith, known, i.2.count, i.0.known)))
          refl (ap (availability (s.len - 1)) places ∙ standing)
          (ap (λ (v : ℕ). set s.available.items v false) c.index-index.ensures.index) refl,
    )
