use Rattle.std.proofs.lemmas.Grind.{common_steps}
use Rattle.std.proofs.Common.{arith}
use Rattle.varisat_formula.proofs.formula.cnf.ClausesIterator.next.Goals as goal

pub returns-in_err-length-clause-steps : goal.returns-in_err-length-clause-steps
returns-in_err-length-clause-steps c = grind (arith, common_steps)
