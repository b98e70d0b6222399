use Rattle.std.proofs.Common.{ap, Ok, Err}
use Rattle.varisat_formula.specs.promises.Streams.{cut_input}
use Rattle.varisat_calls.proofs.Checking.{drat-returned}
use Rattle.varisat_calls.proofs.checks.check_drat.Goals as goal

pub returns-in-Ok-clause-returns : goal.returns-in-Ok-clause-returns
returns-in-Ok-clause-returns g c = λ usable.
    drat-returned c.args.format c.args.checker.now.clauses c.check_drat.new.self.clauses c.args.proof.now (cut_input c.new.result)
    (cut_input c.check_drat.new.source) (Ok c.in-Ok.verdict) _ _
    (λ of. c.in-Ok.ensures.exact c.args.proof.now usable (ap (λ s. (cut_input s).left) c.new.ensures) of)
    (c.in-Ok.ensures.checks usable) c.returned_verdict.ensures.returns

pub returns-in-Err-clause-returns : goal.returns-in-Err-clause-returns
returns-in-Err-clause-returns g c = λ usable.
    drat-returned c.args.format c.args.checker.now.clauses c.check_drat.new.self.clauses c.args.proof.now (cut_input c.new.result)
    (cut_input c.check_drat.new.source) (Err c.in-Err.error) _ _
    (λ of. c.in-Err.ensures.exact c.args.proof.now usable (ap (λ s. (cut_input s).left) c.new.ensures) of)
    (c.in-Err.ensures.checks usable) c.returned_error.ensures.returns
