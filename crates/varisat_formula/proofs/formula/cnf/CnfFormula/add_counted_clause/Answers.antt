use Rattle.std.proofs.Common.{◌≤◌, length, sym, subst, refl}
use Rattle.varisat_formula.specs.promises.Formulas.{Formula, variables_of}
use Rattle.varisat_formula.proofs.FormulaBuffers.{counted_fits, counted_added}
use Rattle.varisat_formula.proofs.formula.cnf.CnfFormula.add_counted_clause.Goals as goal

pub invariant_of-self-2 : goal.invariant_of-self-2
invariant_of-self-2 g c =
    let below : Formula → Type 0 = λ f. variables_of c.args.literals.now ≤ f.var_count in
    counted_fits c.self.inside.var_count (length c.args.literals.now) _ _ c.args.literals.now _ _ c.self.invariant refl
    c.in_ok-append_clause.ensures.lengths c.in_ok-append_clause.ensures.literals (subst below (sym c.self.view_is) c.requires)

pub returns-clause-ok : goal.returns-clause-ok
returns-clause-ok g c = rw (← c.self.view_is) (
    counted_added c.self.inside.var_count (length c.args.literals.now) _ _ c.args.literals.now _ _ c.self.invariant refl
    c.in_ok-append_clause.ensures.lengths c.in_ok-append_clause.ensures.literals)
