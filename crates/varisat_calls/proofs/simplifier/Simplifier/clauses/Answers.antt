use Rattle.varisat_calls.proofs.SimplifierSteps.{listed-now, unlisted-now}
use Rattle.varisat_calls.proofs.simplifier.Simplifier.clauses.Goals as goal
use Rattle.varisat_calls.proofs.simplifier.Simplifier.clauses.Goals.{in-Ok, in-Err}

pub returns : goal.returns
returns g c = rw (← c.self.view_is)
    (elim c.match-list_clauses.branch [
      | in-Ok w ↦ listed-now c.self.inside.stack c.self.inside.formula _ _ _ _ _ _ c.if-is_none.ensures c.self.invariant w.result-is (w.in-Ok.ensures {u = tt})
      | in-Err w ↦ unlisted-now c.self.inside.stack c.self.inside.formula _ _ _ _ _ _ c.if-is_none.ensures w.result-is
    ])
