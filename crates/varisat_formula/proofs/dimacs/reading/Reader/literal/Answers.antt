use Rattle.std.proofs.Common.{◌+◌, ◌∙◌, ap, max, subst, ◌≤◌, sym}
use Rattle.varisat_formula.specs.promises.Formulas.{variables_of}
use Rattle.varisat_formula.proofs.FormulaBuffers.{variables_push}
use Rattle.varisat_formula.proofs.dimacs.reading.Reader.literal.Goals as goal

pub invariant_of-self : goal.invariant_of-self
invariant_of-self g c =
    subst (λ ls. variables_of ls ≤ c.set_var_count.new.self.var_count) (sym c.in-Ok.ensures.items)
    (variables_push _ c.args.literal c.self.inside.formula.var_count _ c.self.invariant
    (ap (λ f. f.var_count) c.set_var_count.ensures ∙ ap (λ n. max c.self.inside.formula.var_count (n + 1)) c.index.ensures.index))
