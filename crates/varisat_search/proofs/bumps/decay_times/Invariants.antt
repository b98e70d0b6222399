use Rattle.std.proofs.Common.{◌≡◌, ◌≤◌, length}
use Rattle.varisat_search.specs.Learning.{decayed_further}
use Rattle.varisat_search.proofs.bumps.decay_times.Given as goal

abbrev pub invariant-loop-done : goal.invariant-loop-done
invariant-loop-done g l =
    record {
      decayed : l.vsids ≡ decayed_further l.done l.fn.vsids;
      within : l.done ≤ l.times;
      count : length l.vsids.activity ≡ length l.fn.vsids.activity;
    }
