use Rattle.std.proofs.Common.{◌≡◌, ◌++◌, map, take, length}
use Rattle.varisat_formula.specs.promises.Values.{assignment_of}
use Rattle.varisat_maxsat.specs.promises.Problems.{paired, cost}
use Rattle.varisat_maxsat.proofs.problem.cost_of.Given as goal

abbrev pub invariant-loop-clause : goal.invariant-loop-clause
invariant-loop-clause g l = record {
  so_far : l.sum ≡ cost (assignment_of l.values) (paired (take l.index l.weights) (map (λ c. c.now) l.yielded));
  whole : map (λ c. c.now) l.yielded ++ l.clause-iterator ≡ l.fn.formula.clauses;
  place : l.index ≡ length (map (λ c. c.now) l.yielded);
}
