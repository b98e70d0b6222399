use Rattle.varisat_maxsat.proofs.Handing.{costs-so, took-passed}
use Rattle.varisat_maxsat.proofs.solving.keep_model.Goals as goal

pub returns : goal.returns
returns g c = record {
  best = λ st h. c.keep_better.ensures.best c.args.problem.now
      (costs-so c.args.problem.now _ _ _ c.deref.ensures.value c.in-Some.ensures.some (c.in_ok-values.ensures.solution c.args.problem.now st)) h;
  taken = λ st. c.in_ok-keep_better.ensures.taken c.args.problem.now
      (costs-so c.args.problem.now _ _ _ c.deref.ensures.value c.in-Some.ensures.some (c.in_ok-values.ensures.solution c.args.problem.now st));
  reason = tt;
}

pub returns-in_err-keep_better-clause-taken : goal.returns-in_err-keep_better-clause-taken
returns-in_err-keep_better-clause-taken g c = λ st x b.
    took-passed c.from_residual-in_err-keep_better.result c.in_err-keep_better.field-0.0 c.from_residual-in_err-keep_better.ensures (c.in_err-keep_better.ensures.taken c.args.problem.now
    (costs-so c.args.problem.now _ _ _ c.deref.ensures.value c.in-Some.ensures.some (c.in_ok-values.ensures.solution c.args.problem.now st)) x b)
