use Rattle.varisat_theory.proofs.clauses.Lines.{refutes_more, refutes_beside}
use Rattle.varisat_theory.proofs.laws.growth.refutation_stays.Goals as goal

pub returns : goal.returns
returns c = (refutes_more, refutes_beside)
