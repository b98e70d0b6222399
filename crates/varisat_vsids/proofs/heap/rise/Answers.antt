use Rattle.std.proofs.Common.{◌≡◌, ℕ, ◌<◌, ◌∙◌, ap, arith, get_or, set, length}
use Rattle.std.proofs.lemmas.Grind.{get_or_default_zero}
use Rattle.varisat_vsids.specs.Heaps.{key}
use Rattle.varisat_vsids.proofs.HeapHoles.{hole_up, hole_up_children, hole_available}
use Rattle.varisat_vsids.proofs.heap.rise.Goals as goal

pub up-preserved : goal.up-preserved
up-preserved c =
    let i = c.up.invariant in
    let less = c.in-Some.ensures.lesser in
    let k : ℕ = c.up.place in
    let p : ℕ = c.in-Some.above in
    let kh : k < length c.up.heap = omega (arith, i.within, i.count, c.requires.heap.part) in
    let ph : p < length c.up.heap = omega (arith, kh, less.0, less.1) in
    let other : c.index-heap-above.result ≡ get_or c.up.heap p 0 = c.index-heap-above.is
    ∙ get_or_default_zero c.up.heap p c.index-heap-above.result ph in
    let eh : c.fill.new.heap ≡ set c.up.heap k (get_or c.up.heap p 0) = c.fill.ensures.heap ∙ ap (λ (w : ℕ). set c.up.heap k w) other in
    let ep : c.fill.new.position ≡ set c.up.position (get_or c.up.heap p 0) k = c.fill.ensures.position ∙ ap (λ (w : ℕ). set c.up.position w k) other in
    let lower : key c.args.activity.now c.up.heap p < get_or c.args.activity.now c.index-heap-at.result 0 = omega (arith, less.2, i.value) in
    record {
      heap = rw (eh, ep) (hole_up c.args.activity.now c.up.heap c.up.position c.args.len k p c.index-heap-at.result i.heap i.within kh less.0 less.1 lower);
      count = c.fill.auto.heap ∙ i.count;
      value = i.value;
      within = omega (arith, i.within, less.0, less.1);
      children = λ old. rw eh (hole_up_children c.args.activity.now c.up.heap c.up.position c.args.len k p c.index-heap-at.result i.heap i.within kh
          less.0 less.1 lower);
      available = rw ep (hole_available c.up.heap c.up.position k p c.index-heap-at.result c.args.len i.heap.linked kh ph (omega (arith, less.0, less.1))
          i.within (omega (arith, i.within, less.0, less.1))) ∙ i.available;
    }
