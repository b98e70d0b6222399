use Rattle.std.proofs.Common.{refl}
use Rattle.varisat_solver.specs.promises.Calls.{with_max_steps}
use Rattle.varisat_calls.proofs.caller.Caller.limit_steps.Goals as goal

pub returns : goal.returns
returns g c = rw (← c.self.view_is) (record {
  call = λ s st. (with_max_steps c.args.steps s, refl, c.set_max_steps.ensures s st);
  rest = refl;
})
