use Rattle.std.proofs.Common.{◌≡◌, ℕ, ◌<◌, ◌∙◌, ap, arith, get_or, set, length}
use Rattle.std.proofs.lemmas.Grind.{get_or_default_zero}
use Rattle.varisat_vsids.specs.Heaps.{IsGreaterChild, key}
use Rattle.varisat_vsids.proofs.HeapHoles.{hole_down, hole_available}
use Rattle.varisat_vsids.proofs.heap.sink.Goals as goal

pub down-preserved : goal.down-preserved
down-preserved c =
    let i = c.down.invariant in
    let greater : IsGreaterChild (key c.args.activity.now c.down.heap) c.args.len c.down.place (get_or c.args.activity.now c.index-heap-at.result 0)
    c.in-Some.child = rw i.value at c.in-Some.ensures.greater in
    let k : ℕ = c.down.place in
    let m : ℕ = c.in-Some.child in
    let kh : k < length c.down.heap = omega (arith, i.within, i.count, c.requires.heap.part) in
    let mh : m < length c.down.heap = omega (arith, greater.below, i.count, c.requires.heap.part) in
    let other : c.index-heap-child.result ≡ get_or c.down.heap m 0 = c.index-heap-child.is
    ∙ get_or_default_zero c.down.heap m c.index-heap-child.result mh in
    let eh : c.fill.new.heap ≡ set c.down.heap k (get_or c.down.heap m 0) = c.fill.ensures.heap ∙ ap (λ (w : ℕ). set c.down.heap k w) other in
    let ep : c.fill.new.position ≡ set c.down.position (get_or c.down.heap m 0) k = c.fill.ensures.position
    ∙ ap (λ (w : ℕ). set c.down.position w k) other in
    record {
      heap = rw (eh, ep) (hole_down c.args.activity.now c.down.heap c.down.position c.args.len k m c.index-heap-at.result i.heap i.within kh greater);
      count = c.fill.auto.heap ∙ i.count;
      value = i.value;
      within = greater.below;
      available = rw ep (hole_available c.down.heap c.down.position k m c.index-heap-at.result c.args.len i.heap.linked kh mh
          (omega (arith, greater.positive, greater.child)) i.within greater.below) ∙ i.available;
    }
