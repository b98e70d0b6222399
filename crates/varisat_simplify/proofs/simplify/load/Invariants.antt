use Rattle.varisat_simplify.proofs.LoadLemmas.{Loads}
use Rattle.varisat_simplify.proofs.simplify.load.Given as goal

abbrev pub invariant-loop-clause : goal.invariant-loop-clause
invariant-loop-clause g l = Loads l.fn.formula.clauses l.clause-iterator l.fn.db.var_count l.fn.db.frozen l.fn.db.saves_both l.db
