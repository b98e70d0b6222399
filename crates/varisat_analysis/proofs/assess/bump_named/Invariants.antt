use Rattle.std.proofs.Common.{◌≡◌, take}
use Rattle.varisat_analysis.proofs.BumpedClauses.{AreBumped}
use Rattle.varisat_analysis.proofs.assess.bump_named.Given as goal

abbrev pub invariant-loop-name : goal.invariant-loop-name
invariant-loop-name g l =
    record {
      bumped : AreBumped l.impl_graph.nodes.items (take l.name-index l.names) l.fn.alloc l.alloc l.db l.fn.activity l.activity;
      flags : l.flags ≡ l.fn.flags;
    }
