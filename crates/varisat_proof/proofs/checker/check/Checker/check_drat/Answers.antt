use Rattle.std.proofs.Common.{◌≡◌, Ok, Err, refl, ap}
use Rattle.varisat_proof.specs.declared.checker.error.CheckVerdict.TheVariants.{Refutation}
use Rattle.varisat_proof.specs.promises.Marked.{state_of}
use Rattle.varisat_proof.specs.promises.DratChecks.{IsDratResult}
use Rattle.varisat_proof.proofs.CheckedSources.{checks_exact}
use Rattle.varisat_proof.proofs.DratCheck.{drat_ok, drat_err, drat_check_sound}
use Rattle.varisat_proof.proofs.checker.check.Checker.check_drat.Goals as goal

pub returns-in-Ok-clause-checks : goal.returns-in-Ok-clause-checks
returns-in-Ok-clause-checks g c = λ u. drat_ok c.args.format c.plain_encoding.result c.args.self.now.clauses c.new_in-builder.result (state_of c.run.new.self.clauses c.run.new.builder) c.in-Ok.verdict c.run.new.self.clauses (g.S.ByteSource.input c.args.source.now) (g.S.ByteSource.input c.run.new.source) c.plain_encoding.ensures c.new_in-builder.ensures refl c.in-Ok.ensures.checks

pub returns-in-Ok-clause-exact : goal.returns-in-Ok-clause-exact
returns-in-Ok-clause-exact g c = λ bytes u e i. checks_exact
    (λ bytes. IsDratResult c.args.format c.args.self.now.clauses bytes (Ok c.in-Ok.verdict) c.run.new.self.clauses) (g.S.ByteSource.input c.args.source.now) (g.S.ByteSource.input c.run.new.source) bytes (Ok c.in-Ok.verdict) e i
    (drat_ok c.args.format c.plain_encoding.result c.args.self.now.clauses c.new_in-builder.result (state_of c.run.new.self.clauses c.run.new.builder) c.in-Ok.verdict c.run.new.self.clauses (g.S.ByteSource.input c.args.source.now) (g.S.ByteSource.input c.run.new.source) c.plain_encoding.ensures c.new_in-builder.ensures refl c.in-Ok.ensures.checks)

pub returns-in-Ok-clause-sound : goal.returns-in-Ok-clause-sound
returns-in-Ok-clause-sound g c = λ e. let h : c.in-Ok.verdict ≡ Refutation = cc in
    drat_check_sound c.args.format c.args.self.now.clauses c.run.new.self.clauses c.in-Ok.verdict (g.S.ByteSource.input c.args.source.now) (g.S.ByteSource.input c.run.new.source) h
    (drat_ok c.args.format c.plain_encoding.result c.args.self.now.clauses c.new_in-builder.result (state_of c.run.new.self.clauses c.run.new.builder) c.in-Ok.verdict c.run.new.self.clauses (g.S.ByteSource.input c.args.source.now) (g.S.ByteSource.input c.run.new.source) c.plain_encoding.ensures c.new_in-builder.ensures refl c.in-Ok.ensures.checks)

pub returns-clause-checks : goal.returns-clause-checks
returns-clause-checks g c = λ u. drat_err c.args.format c.plain_encoding.result c.args.self.now.clauses c.new_in-builder.result (state_of c.run.new.self.clauses c.run.new.builder) c.in-Err.error c.end_with.new.self.clauses (g.S.ByteSource.input c.args.source.now) (g.S.ByteSource.input c.run.new.source) c.plain_encoding.ensures c.new_in-builder.ensures (ap (λ x. x.clauses) c.end_with.ensures) c.in-Err.ensures.checks

pub returns-clause-exact : goal.returns-clause-exact
returns-clause-exact g c = λ bytes u e i. checks_exact
    (λ bytes. IsDratResult c.args.format c.args.self.now.clauses bytes (Err c.in-Err.error) c.end_with.new.self.clauses) (g.S.ByteSource.input c.args.source.now) (g.S.ByteSource.input c.run.new.source) bytes (Err c.in-Err.error) e i
    (drat_err c.args.format c.plain_encoding.result c.args.self.now.clauses c.new_in-builder.result (state_of c.run.new.self.clauses c.run.new.builder) c.in-Err.error c.end_with.new.self.clauses (g.S.ByteSource.input c.args.source.now) (g.S.ByteSource.input c.run.new.source) c.plain_encoding.ensures c.new_in-builder.ensures (ap (λ x. x.clauses) c.end_with.ensures) c.in-Err.ensures.checks)
