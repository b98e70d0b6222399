use Rattle.std.proofs.Common.{ℕ, List, ◌≡◌, ◌≤◌, ◌<◌, ◌++◌, ◌∷◌, [], ◌∙◌, ap, arith, length, refl, false}
use Rattle.std.specs.Prelude.{Bool}
use Rattle.varisat_literals.specs.promises.Numbers.{variable_limit}
use Rattle.varisat_vsids.specs.Heaps.{availability}
use Rattle.varisat_vsids.proofs.HeapGrowth.{longer_by_one, one_more, one_more_available, one_more_filled}
use Rattle.varisat_vsids.proofs.HeapView.{same_heap}
use Rattle.varisat_vsids.proofs.ActivityLimits.{one_more_limits, same_limits}
use Rattle.varisat_vsids.proofs.IdleVariables.{idle_longer, same_idle}
use Rattle.varisat_vsids.proofs.vsids.Vsids.set_var_count.Goals as goal

pub loop-index-preserved : goal.loop-index-preserved
loop-index-preserved g c =
    let s = c.loop-index.self-inside in
    let i = c.loop-index.invariant in
    let k : ℕ = c.loop-index.index in
    let old = c.args.self.now in
    let p = c.push_reserved.ensures in
    let q = c.push_reserved-in-loop-index.ensures in
    let r = c.push_reserved-in-loop-index-2.ensures in
    let t = c.push_reserved-in-loop-index-3.ensures in
    let u = c.push_reserved-in-loop-index-4.ensures in
    let few : k < variable_limit = omega (arith, c.requires.small, c.loop-index-test.true) in
    let pushed : c.push_reserved-in-loop-index.new.self.items ≡ s.heap.items ++ k ∷ [] = q.items
    ∙ ap (λ (v : ℕ). s.heap.items ++ v ∷ []) c.from_index.ensures in
    let part : s.len ≤ k = omega (arith, i.heap.part, i.count) in
    record {
      heap = same_heap _ _ _ _ _ _ s.len (one_more s.activity.items s.heap.items s.position.items s.len k i.heap i.count few) p.items pushed r.items;
      limits = same_limits _ _ s.increment s.increment s.decay (one_more_limits s.activity.items s.increment s.decay i.limits) p.items refl;
      idle = same_idle _ _ _ _ _ _ _ _ s.cursor
          (idle_longer s.activity.items (availability s.len s.position.items) s.available.items s.blocks.items s.cursor i.idle)
          p.items (ap (availability s.len) r.items ∙ one_more_available s.position.items s.len k part) t.items u.items;
      count = ap length pushed ∙ longer_by_one s.heap.items k k i.count;
      raised = omega (arith, i.raised);
      activity = p.items ∙ ap (λ (xs : List ℕ). xs ++ 0 ∷ []) i.activity ∙ one_more_filled old.activity 0 (length old.activity) k i.raised;
      available = t.items ∙ ap (λ (bs : List Bool). bs ++ false ∷ []) i.available ∙ one_more_filled old.available false (length old.activity) k i.raised;
      increment = i.increment;
      decay = i.decay;
      room = omega (arith, p.len, p.capacity, i.room, c.loop-index-test.true);
      heap_room = omega (arith, q.len, q.capacity, i.heap_room, c.loop-index-test.true);
      position_room = omega (arith, r.len, r.capacity, i.position_room, c.loop-index-test.true);
      available_room = omega (arith, t.len, t.capacity, i.available_room, c.loop-index-test.true);
      block_room = omega (arith, u.len, u.capacity, i.block_room, c.loop-index-test.true);
    }
