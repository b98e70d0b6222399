use Rattle.std.proofs.lemmas.Grind.{common_steps}
use Rattle.std.proofs.Common.{refl, arith}
use Rattle.varisat_formula.specs.promises.Formulas.{no_clauses}
use Rattle.varisat_formula.proofs.FormulaBuffers.{clauses_step}
use Rattle.varisat_formula.proofs.formula.cnf.CnfFormula.from_clauses_in.Goals as goal

pub loop-clause-preserved : goal.loop-clause-preserved
loop-clause-preserved g c =
    clauses_step (λ b. b.now) c.args.clauses.now c.loop-clause.clause-index c.clause-item.result _ no_clauses c.loop-clause.formula _
    c.loop-clause-test.true c.clause-item.is refl c.loop-clause.invariant c.in_ok-add_clause.ensures

pub returns-clause-formula : goal.returns-clause-formula
returns-clause-formula g c = grind (arith, common_steps)
