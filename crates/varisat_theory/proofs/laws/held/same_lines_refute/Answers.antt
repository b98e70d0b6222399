use Rattle.varisat_theory.proofs.clauses.Lines.{refutes_same}
use Rattle.varisat_theory.proofs.laws.held.same_lines_refute.Goals as goal

pub returns : goal.returns
returns c = refutes_same
