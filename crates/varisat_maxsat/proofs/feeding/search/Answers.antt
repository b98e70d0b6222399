use Rattle.std.proofs.Common.{refl}
use Rattle.varisat_maxsat.specs.inside.Reductions.{left_steps, with_limit}
use Rattle.varisat_maxsat.proofs.Given.{begun-finds, begun-fails, begun-stops}
use Rattle.varisat_maxsat.proofs.feeding.search.Goals as goal

pub returns-in-Satisfiable : goal.returns-in-Satisfiable
returns-in-Satisfiable g c = λ p r.
    let q = with_limit (left_steps c.args.steps p.steps) p in
    begun-finds _ _ q _ _ _ refl (c.in_ok-assume.ensures q (c.limit_search.ensures p r)) c.in-Satisfiable.ensures

pub returns-in-Unsatisfiable : goal.returns-in-Unsatisfiable
returns-in-Unsatisfiable g c = λ p r.
    let q = with_limit (left_steps c.args.steps p.steps) p in
    begun-fails _ _ q _ _ _ refl (c.in_ok-assume.ensures q (c.limit_search.ensures p r)) c.in-Unsatisfiable.ensures

pub returns-in-Interrupted : goal.returns-in-Interrupted
returns-in-Interrupted g c = λ p r.
    let q = with_limit (left_steps c.args.steps p.steps) p in
    begun-stops _ _ q _ _ _ refl (c.in_ok-assume.ensures q (c.limit_search.ensures p r)) c.in-Interrupted.ensures
