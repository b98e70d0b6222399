use Rattle.std.proofs.Common.{◌≤◌, take}
use Rattle.varisat_analysis.specs.Bumps.{level_in}
use Rattle.varisat_analysis.proofs.CountedLevels.{Counts}
use Rattle.varisat_analysis.proofs.glue.flag_levels.Given as goal

abbrev pub invariant-loop-lit : goal.invariant-loop-lit
invariant-loop-lit g l =
    record {
      counts : Counts (level_in l.impl_graph.nodes.items) (take l.lit-index l.lits) l.flags l.count;
      few : l.count ≤ l.lit-index;
    }
