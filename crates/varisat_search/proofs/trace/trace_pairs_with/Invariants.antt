use Rattle.varisat_steps.proofs.TracedLists.{TracesTo}
use Rattle.varisat_search.proofs.simplifying.TracedClauses.{pair_line}
use Rattle.varisat_search.proofs.trace.trace_pairs_with.Given as goal

abbrev pub invariant-loop-other : goal.invariant-loop-other
invariant-loop-other g l = TracesTo g.P.ProofTracer.holds g.P.ProofTracer.takes (pair_line l.values l.first) l.others l.other-index l.fn.proof l.proof
