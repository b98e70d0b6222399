use Rattle.varisat_steps.proofs.TracedLists.{TracesTo}
use Rattle.varisat_search.proofs.simplifying.TracedClauses.{list_lines, numbered}
use Rattle.varisat_search.proofs.trace.trace_each_pair.Given as goal

abbrev pub invariant-lits : goal.invariant-lits
invariant-lits g l = TracesTo g.P.ProofTracer.holds g.P.ProofTracer.takes (list_lines l.values) (numbered l.values 0 l.binary_clauses) l.code l.fn.proof l.proof
