use Rattle.std.proofs.Common.{◌≡◌, ◌++◌, map}
use Rattle.varisat_proof.proofs.checker.check.Checker.add_formula.Given as goal

abbrev pub invariant-loop-clause : goal.invariant-loop-clause
invariant-loop-clause g l = record {
  so_far : l.self ≡ record l.fn.self { clauses = l.fn.self.clauses ++ map (λ c. c.now) l.yielded };
  whole : map (λ c. c.now) l.yielded ++ l.clause-iterator ≡ l.fn.formula.clauses;
}
