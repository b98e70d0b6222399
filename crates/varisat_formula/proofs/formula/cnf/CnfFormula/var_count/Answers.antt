use Rattle.varisat_formula.proofs.FormulaBuffers.{below_cut}
use Rattle.varisat_formula.proofs.formula.cnf.CnfFormula.var_count.Goals as goal

pub returns-clause-below : goal.returns-clause-below
returns-clause-below g c = rw (← c.self.view_is) (below_cut _ _ _ c.self.invariant.below)
