use Rattle.std.proofs.lemmas.Grind.{common_steps}
use Rattle.std.proofs.Common.{arith}
use Rattle.varisat_formula.proofs.dimacs.reading.Reader.token.Goals as goal

pub returns-in_err-end_clause-in-End-clause-wants : goal.returns-in_err-end_clause-in-End-clause-wants
returns-in_err-end_clause-in-End-clause-wants g c = grind (arith, common_steps)

pub returns-in_err-literal-in-Literal-clause-wants : goal.returns-in_err-literal-in-Literal-clause-wants
returns-in_err-literal-in-Literal-clause-wants g c = grind (arith, common_steps)
