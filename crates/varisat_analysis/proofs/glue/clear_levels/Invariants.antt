use Rattle.std.proofs.Common.{take}
use Rattle.varisat_analysis.specs.Bumps.{level_in}
use Rattle.varisat_analysis.proofs.BumpedVariables.{Clears}
use Rattle.varisat_analysis.proofs.glue.clear_levels.Given as goal

abbrev pub invariant-loop-lit : goal.invariant-loop-lit
invariant-loop-lit g l = Clears (level_in l.impl_graph.nodes.items) (take l.lit-index l.lits) l.fn.flags l.flags
