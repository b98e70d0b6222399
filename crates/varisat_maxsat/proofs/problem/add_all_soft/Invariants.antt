use Rattle.std.proofs.Common.{◌≡◌, ◌++◌, map, take, length}
use Rattle.varisat_maxsat.specs.promises.Problems.{Problem, paired}
use Rattle.varisat_maxsat.specs.inside.Reductions.{ReducesTo}
use Rattle.varisat_maxsat.proofs.problem.add_all_soft.Given as goal

abbrev pub invariant-loop-clause : goal.invariant-loop-clause
invariant-loop-clause g l = record {
  so_far : (p : Problem) → ReducesTo p l.initial.reduction →
      ReducesTo (record p { soft = p.soft ++ paired (take l.index l.weights) (map (λ c. c.now) l.yielded) }) l.reduction;
  whole : map (λ c. c.now) l.yielded ++ l.clause-iterator ≡ l.fn.formula.clauses;
  place : l.index ≡ length (map (λ c. c.now) l.yielded);
}
