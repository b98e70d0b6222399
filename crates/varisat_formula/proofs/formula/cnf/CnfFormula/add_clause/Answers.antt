use Rattle.std.proofs.Common.{length, ap, ◌∙◌, refl, ℕ, ◌≡◌, ◌≤◌, ◌^◌, max, arith}
use Rattle.varisat_formula.proofs.FormulaBuffers.{fits_append, clause_added}
use Rattle.varisat_formula.proofs.formula.cnf.CnfFormula.add_clause.Goals as goal

small : (n m : ℕ) → n ≡ m → n ≤ 2 ^ 31 → m ≤ 2 ^ 31
small n m e h = omega arith

pub invariant_of-self-2 : goal.invariant_of-self-2
invariant_of-self-2 g c =
    fits_append c.self.inside.var_count _ (length c.args.literals.now) _ _ c.args.literals.now _ _ c.self.invariant refl
    c.in_ok-append_clause.ensures.lengths c.in_ok-append_clause.ensures.literals
    (c.max-self-inside.ensures ∙ ap (λ n. max c.self.inside.var_count n) c.variables_of-needed.ensures.count)
    (small _ _ c.variables_of-needed.ensures.count c.variables_of-needed.ensures.small)

pub returns : goal.returns
returns g c = rw (← c.self.view_is) (
    clause_added c.self.inside.var_count _ (length c.args.literals.now) _ _ c.args.literals.now _ _ c.self.invariant refl
    c.in_ok-append_clause.ensures.lengths c.in_ok-append_clause.ensures.literals
    (c.max-self-inside.ensures ∙ ap (λ n. max c.self.inside.var_count n) c.variables_of-needed.ensures.count))
