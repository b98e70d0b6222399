use Rattle.std.proofs.Common.{◌≡◌, ◌<◌, ◌-◌, length, get_or, set}
use Rattle.varisat_vsids.specs.Heaps.{IsHeapUnder, availability}
use Rattle.varisat_vsids.proofs.heap.sink.Given as goal

abbrev pub invariant-down : goal.invariant-down
invariant-down l = record {
  heap : IsHeapUnder l.activity (set l.heap l.place l.var) (set l.position l.var l.place) l.len l.place;
  count : length l.heap ≡ length l.fn.heap;
  value : l.value ≡ get_or l.activity l.var 0;
  within : l.place < l.len;
  available : availability l.len (set l.position l.var l.place) ≡ availability l.len l.fn.position;
}

abbrev pub decreases-down : goal.decreases-down
decreases-down l = l.len - l.place
