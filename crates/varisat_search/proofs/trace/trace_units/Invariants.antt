use Rattle.varisat_steps.proofs.TracedLists.{TracesTo}
use Rattle.varisat_search.proofs.simplifying.TracedClauses.{unit_line}
use Rattle.varisat_search.proofs.trace.trace_units.Given as goal

abbrev pub invariant-loop-lit : goal.invariant-loop-lit
invariant-loop-lit g l = TracesTo g.P.ProofTracer.holds g.P.ProofTracer.takes (unit_line l.impl_graph.nodes.items) l.lits l.lit-index l.fn.proof l.proof
