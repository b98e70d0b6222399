use Rattle.std.proofs.Common.{◌≡◌, ◌+◌, ◌-◌, ◌++◌, ◌≤◌, length, replicate, false}
use Rattle.std.specs.Prelude.{vec_len, vec_capacity}
use Rattle.varisat_vsids.specs.Heaps.{IsHeap, availability}
use Rattle.varisat_vsids.specs.Idle.{AreIdleOutside}
use Rattle.varisat_vsids.specs.Activities.{AreWithinLimits}
use Rattle.varisat_vsids.proofs.vsids.Vsids.set_var_count.Given as goal

abbrev pub invariant-loop-index : goal.invariant-loop-index
invariant-loop-index g l =
    let s = l.self-inside in
    let old = l.fn.self in
    record {
      heap : IsHeap s.activity.items s.heap.items s.position.items s.len;
      limits : AreWithinLimits s.activity.items s.increment s.decay;
      idle : AreIdleOutside s.activity.items (availability s.len s.position.items) s.available.items s.blocks.items s.cursor;
      count : length s.heap.items ≡ l.index;
      raised : length old.activity ≤ l.index;
      activity : s.activity.items ≡ old.activity ++ replicate (l.index - length old.activity) 0;
      available : s.available.items ≡ old.available ++ replicate (l.index - length old.activity) false;
      increment : s.increment ≡ old.increment;
      decay : s.decay ≡ old.decay;
      room : vec_len s.activity + (l.count - l.index) ≤ vec_capacity s.activity;
      heap_room : vec_len s.heap + (l.count - l.index) ≤ vec_capacity s.heap;
      position_room : vec_len s.position + (l.count - l.index) ≤ vec_capacity s.position;
      available_room : vec_len s.available + (l.count - l.index) ≤ vec_capacity s.available;
      block_room : vec_len s.blocks + (l.count - l.index) ≤ vec_capacity s.blocks;
    }
