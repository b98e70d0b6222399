use Rattle.std.proofs.Common.{max, subst}
use Rattle.varisat_maxsat.specs.promises.Problems.{paired, problem_of}
use Rattle.varisat_maxsat.specs.inside.Reductions.{ReducesTo}
use Rattle.varisat_maxsat.proofs.problem.Problem.reduce.Goals as goal

pub returns : goal.returns
returns g c = rw (← c.self.view_is) (λ st.
    subst (λ ws. ReducesTo (problem_of (max c.self.inside.hard.var_count c.self.inside.soft.var_count) c.self.inside.hard.clauses
    (paired ws c.self.inside.soft.clauses)) c.add_all_soft.new.reduction)
    c.deref.ensures.value (c.in_ok-add_all_soft.ensures _ (c.in_ok-add_all_hard.ensures _ st)))
