use Rattle.std.proofs.Common.{Ok, ap}
use Rattle.varisat_proof.specs.promises.Calls.{IsMarkedResult}
use Rattle.varisat_proof.proofs.CheckedSources.{checks_exact}
use Rattle.varisat_proof.proofs.CheckResults.{marked_ok, marked_err, marked_err_exact, marked_true}
use Rattle.varisat_proof.specs.promises.Marked.{state_of}
use Rattle.varisat_proof.proofs.checker.check.Checker.check_marked.Goals as goal

pub returns-in-Ok-clause-checks : goal.returns-in-Ok-clause-checks
returns-in-Ok-clause-checks g c = λ u. marked_ok c.args.self.now.clauses c.run.new.self.clauses c.new_in-builder.result c.run.new.builder c.in-Ok.verdict
    c.report.result (g.S.ByteSource.input c.args.source.now) (g.S.ByteSource.input c.run.new.source) c.new_in-builder.ensures
    (record { verdict = c.report.ensures.verdict; inputs = c.report.ensures.inputs; cores = c.report.ensures.cores }) c.in-Ok.ensures.checks

pub returns-in-Ok-clause-sound : goal.returns-in-Ok-clause-sound
returns-in-Ok-clause-sound g c = marked_true c.args.self.now.clauses c.run.new.self.clauses c.report.result (g.S.ByteSource.input c.args.source.now)
    (g.S.ByteSource.input c.run.new.source) (marked_ok c.args.self.now.clauses c.run.new.self.clauses c.new_in-builder.result c.run.new.builder
    c.in-Ok.verdict c.report.result (g.S.ByteSource.input c.args.source.now) (g.S.ByteSource.input c.run.new.source) c.new_in-builder.ensures
    (record { verdict = c.report.ensures.verdict; inputs = c.report.ensures.inputs; cores = c.report.ensures.cores }) c.in-Ok.ensures.checks)

pub returns-in-Ok-clause-exact : goal.returns-in-Ok-clause-exact
returns-in-Ok-clause-exact g c = λ bytes u e i. checks_exact
    (λ bytes. IsMarkedResult c.args.self.now.clauses bytes (Ok c.report.result) c.run.new.self.clauses) (g.S.ByteSource.input c.args.source.now)
    (g.S.ByteSource.input c.run.new.source) bytes (Ok c.report.result) e i
    (marked_ok c.args.self.now.clauses c.run.new.self.clauses c.new_in-builder.result c.run.new.builder c.in-Ok.verdict c.report.result
    (g.S.ByteSource.input c.args.source.now) (g.S.ByteSource.input c.run.new.source) c.new_in-builder.ensures
    (record { verdict = c.report.ensures.verdict; inputs = c.report.ensures.inputs; cores = c.report.ensures.cores }) c.in-Ok.ensures.checks)

pub returns-in-Err-clause-checks : goal.returns-in-Err-clause-checks
returns-in-Err-clause-checks g c = λ u. marked_err c.args.self.now.clauses c.new_in-builder.result (state_of c.run.new.self.clauses c.run.new.builder)
    c.in-Err.error c.end_with.new.self.clauses (g.S.ByteSource.input c.args.source.now) (g.S.ByteSource.input c.run.new.source) c.new_in-builder.ensures
    (ap (λ x. x.clauses) c.end_with.ensures) c.in-Err.ensures.checks

pub returns-in-Err-clause-exact : goal.returns-in-Err-clause-exact
returns-in-Err-clause-exact g c = λ bytes u e i. marked_err_exact c.args.self.now.clauses c.new_in-builder.result
    (state_of c.run.new.self.clauses c.run.new.builder) c.in-Err.error c.end_with.new.self.clauses (g.S.ByteSource.input c.args.source.now)
    (g.S.ByteSource.input c.run.new.source) bytes c.new_in-builder.ensures (ap (λ x. x.clauses) c.end_with.ensures) e i c.in-Err.ensures.checks
