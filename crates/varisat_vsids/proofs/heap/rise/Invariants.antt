use Rattle.std.proofs.Common.{◌≡◌, ◌<◌, length, get_or, set}
use Rattle.varisat_vsids.specs.Heaps.{IsHeapBut, IsNoChildGreater, key, availability}
use Rattle.varisat_vsids.proofs.heap.rise.Given as goal

abbrev pub invariant-up : goal.invariant-up
invariant-up l = record {
  heap : IsHeapBut l.activity (set l.heap l.place l.var) (set l.position l.var l.place) l.len l.place;
  count : length l.heap ≡ length l.fn.heap;
  value : l.value ≡ get_or l.activity l.var 0;
  within : l.place < l.len;
  children : IsNoChildGreater (key l.activity l.fn.heap) l.len l.at → IsNoChildGreater (key l.activity (set l.heap l.place l.var)) l.len l.place;
  available : availability l.len (set l.position l.var l.place) ≡ availability l.len l.fn.position;
}

abbrev pub decreases-up : goal.decreases-up
decreases-up l = l.place
