use Rattle.std.proofs.Common.{sym, subst, arith}
use Rattle.varisat_formula.specs.promises.Formulas.{AreBelow}
use Rattle.varisat_maxsat.proofs.Standing.{clauses-rise, paired-clauses}
use Rattle.varisat_maxsat.proofs.problem.Problem.var_count.Goals as goal

pub returns-clause-below : goal.returns-clause-below
returns-clause-below g c = rw (← c.self.view_is) (
  clauses-rise _ _ _ (omega (arith, c.max.ensures, c.var_count.ensures.count, c.var_count-2.ensures.count)) c.var_count.ensures.below,
  subst (AreBelow c.max.result) (sym (paired-clauses c.self.inside.weights.items c.self.inside.soft.clauses c.self.invariant))
      (clauses-rise _ _ _ (omega (arith, c.max.ensures, c.var_count.ensures.count, c.var_count-2.ensures.count)) c.var_count-2.ensures.below),
)
