use Rattle.std.proofs.Common.{take}
use Rattle.varisat_search.proofs.simplifying.ProvedUnits.{HasUnitsTo}
use Rattle.varisat_search.proofs.unit_simplify.forget_reasons.Given as goal

abbrev pub invariant-loop-lit : goal.invariant-loop-lit
invariant-loop-lit g l = HasUnitsTo (take l.lit-index l.lits) l.fn.impl_graph.nodes.items l.impl_graph.nodes.items
