use Rattle.varisat_theory.proofs.clauses.Lines.{derives_same}
use Rattle.varisat_theory.proofs.laws.held.same_lines_derive.Goals as goal

pub returns : goal.returns
returns c = derives_same
