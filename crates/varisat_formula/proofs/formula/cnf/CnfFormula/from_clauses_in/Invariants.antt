use Rattle.std.proofs.Common.{◌≡◌, take, map}
use Rattle.varisat_formula.specs.promises.Formulas.{no_clauses, with_more}
use Rattle.varisat_formula.proofs.formula.cnf.CnfFormula.from_clauses_in.Given as goal

abbrev pub invariant-loop-clause : goal.invariant-loop-clause
invariant-loop-clause g l = l.formula ≡ with_more no_clauses (map (λ c. c.now) (take l.clause-index l.clauses))
