use Rattle.std.proofs.Common.{Ok, Err, refl, ap}
use Rattle.varisat_proof.specs.promises.Results.{IsResult}
use Rattle.varisat_proof.proofs.CheckedSources.{checks_exact}
use Rattle.varisat_proof.proofs.CheckResults.{plain_ok, plain_err, check_sound}
use Rattle.varisat_proof.specs.promises.Marked.{state_of}
use Rattle.varisat_proof.proofs.checker.check.Checker.check_proof.Goals as goal

pub returns-in-Ok-clause-checks : goal.returns-in-Ok-clause-checks
returns-in-Ok-clause-checks g c = λ u. plain_ok c.args.format c.plain_encoding.result c.args.self.now.clauses c.new_in-builder.result
    (state_of c.run.new.self.clauses c.run.new.builder) c.in-Ok.verdict c.run.new.self.clauses (g.S.ByteSource.input c.args.source.now)
    (g.S.ByteSource.input c.run.new.source) c.plain_encoding.ensures refl c.in-Ok.ensures.checks

pub returns-in-Ok-clause-sound : goal.returns-in-Ok-clause-sound
returns-in-Ok-clause-sound g c = λ e. check_sound c.args.format c.args.self.now.clauses c.run.new.self.clauses c.in-Ok.verdict
    (g.S.ByteSource.input c.args.source.now) (g.S.ByteSource.input c.run.new.source) e
    (plain_ok c.args.format c.plain_encoding.result c.args.self.now.clauses c.new_in-builder.result (state_of c.run.new.self.clauses c.run.new.builder)
    c.in-Ok.verdict c.run.new.self.clauses (g.S.ByteSource.input c.args.source.now) (g.S.ByteSource.input c.run.new.source) c.plain_encoding.ensures refl
    c.in-Ok.ensures.checks)

pub returns-in-Ok-clause-exact : goal.returns-in-Ok-clause-exact
returns-in-Ok-clause-exact g c = λ bytes u e i. checks_exact
    (λ bytes. IsResult c.args.format c.args.self.now.clauses bytes (Ok c.in-Ok.verdict) c.run.new.self.clauses) (g.S.ByteSource.input c.args.source.now)
    (g.S.ByteSource.input c.run.new.source) bytes (Ok c.in-Ok.verdict) e i
    (plain_ok c.args.format c.plain_encoding.result c.args.self.now.clauses c.new_in-builder.result (state_of c.run.new.self.clauses c.run.new.builder)
    c.in-Ok.verdict c.run.new.self.clauses (g.S.ByteSource.input c.args.source.now) (g.S.ByteSource.input c.run.new.source) c.plain_encoding.ensures refl
    c.in-Ok.ensures.checks)

pub returns-clause-checks : goal.returns-clause-checks
returns-clause-checks g c = λ u. plain_err c.args.format c.plain_encoding.result c.args.self.now.clauses c.new_in-builder.result
    (state_of c.run.new.self.clauses c.run.new.builder) c.in-Err.error c.end_with.new.self.clauses (g.S.ByteSource.input c.args.source.now)
    (g.S.ByteSource.input c.run.new.source) c.plain_encoding.ensures (ap (λ x. x.clauses) c.end_with.ensures) c.in-Err.ensures.checks

pub returns-clause-exact : goal.returns-clause-exact
returns-clause-exact g c = λ bytes u e i. checks_exact (λ bytes. IsResult c.args.format c.args.self.now.clauses bytes (Err c.in-Err.error)
    c.end_with.new.self.clauses) (g.S.ByteSource.input c.args.source.now) (g.S.ByteSource.input c.run.new.source) bytes (Err c.in-Err.error) e i
    (plain_err c.args.format c.plain_encoding.result c.args.self.now.clauses c.new_in-builder.result (state_of c.run.new.self.clauses c.run.new.builder)
    c.in-Err.error c.end_with.new.self.clauses (g.S.ByteSource.input c.args.source.now) (g.S.ByteSource.input c.run.new.source) c.plain_encoding.ensures
    (ap (λ x. x.clauses) c.end_with.ensures) c.in-Err.ensures.checks)
