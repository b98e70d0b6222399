use Rattle.std.proofs.Common.{◌∙◌, ◌<◌, ◌^◌, ap, length, arith}
use Rattle.varisat_formula.proofs.FormulaBuffers.{length-cut}
use Rattle.varisat_formula.proofs.formula.cnf.CnfFormula.len.Goals as goal

pub returns-clause-count : goal.returns-clause-count
returns-clause-count g c = rw (← c.self.view_is) (ap length c.as_slice.ensures.value ∙ length-cut _ _)

pub returns-clause-small : goal.returns-clause-small
returns-clause-small g c =
    let e = ap length c.as_slice.ensures.value in
    let f : length c.as_slice.result.now < 2 ^ 64 = c.as_slice.type_inv.0 in
    rw (← c.self.view_is) (omega (arith, e, f, length-cut c.self.inside.lengths.items c.self.inside.literals.items))
