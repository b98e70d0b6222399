use Rattle.std.proofs.Common.{refl, arith}
use Rattle.varisat_formula.proofs.FormulaBuffers.{fits_more}
use Rattle.varisat_formula.proofs.formula.cnf.CnfFormulaExtendFormula.new_var.Goals as goal

pub invariant_of-self : goal.invariant_of-self
invariant_of-self g c =
    let small = c.self.invariant.small in
    fits_more c.self.inside.var_count _ _ _ c.self.invariant (omega arith) (omega (arith, small))

pub returns : goal.returns
returns g c =
    let small = c.self.invariant.small in
    let unequal = c.if-self-eq2147483648.false in
    let e = c.from_index-var.ensures in
    rw (← c.self.view_is) (e, omega (arith, small, unequal, e), rw e refl)
