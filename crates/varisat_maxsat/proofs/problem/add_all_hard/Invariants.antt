use Rattle.std.proofs.Common.{◌≡◌, ◌++◌, map}
use Rattle.varisat_maxsat.specs.promises.Problems.{Problem}
use Rattle.varisat_maxsat.specs.inside.Reductions.{ReducesTo}
use Rattle.varisat_maxsat.proofs.problem.add_all_hard.Given as goal

abbrev pub invariant-loop-clause : goal.invariant-loop-clause
invariant-loop-clause g l = record {
  so_far : (p : Problem) → ReducesTo p l.initial.reduction → ReducesTo (record p { hard = p.hard ++ map (λ c. c.now) l.yielded }) l.reduction;
  whole : map (λ c. c.now) l.yielded ++ l.clause-iterator ≡ l.fn.formula.clauses;
}
