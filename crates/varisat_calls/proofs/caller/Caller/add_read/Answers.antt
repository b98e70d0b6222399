use Rattle.std.proofs.Common.{refl, ap}
use Rattle.varisat_calls.proofs.Making.{clauses-added}
use Rattle.varisat_calls.proofs.caller.Caller.add_read.Goals as goal

pub returns : goal.returns
returns g c = rw (← c.self.view_is)
    (record {
      added = clauses-added _ _ _ _ _ (ap (λ x. x.clauses) c.take_formula.ensures.formula) c.add_formula-2.ensures.call refl;
      taken = c.take_formula.ensures.frame;
    })
