use Rattle.std.proofs.Common.{◌∙◌, ap, ◌==◌, length}
use Rattle.varisat_formula.proofs.FormulaBuffers.{cut_empty}
use Rattle.varisat_formula.proofs.formula.cnf.CnfFormula.is_empty.Goals as goal

pub returns : goal.returns
returns g c = rw (← c.self.view_is)
    (cut_empty c.self.inside.lengths.items _ c.is_empty.result (c.is_empty.ensures ∙ ap (λ ns. length ns == 0) c.as_slice.ensures.value))
