use Rattle.std.proofs.Common.{◌≡◌, take, length}
use Rattle.varisat_analysis.specs.Bumps.{bumped_each}
use Rattle.varisat_analysis.proofs.bumps.bump_each.Given as goal

abbrev pub invariant-loop-var : goal.invariant-loop-var
invariant-loop-var g l =
    record {
      bumps : l.vsids ≡ bumped_each (take l.var-index l.vars) l.fn.vsids;
      count : length l.vsids.activity ≡ length l.fn.vsids.activity;
    }
