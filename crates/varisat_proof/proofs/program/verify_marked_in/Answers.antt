use Rattle.std.proofs.Common.{Ok, Err, [], ap, subst}
use Rattle.varisat_steps.proofs.Broken.{passed-on}
use Rattle.varisat_proof.specs.promises.Verified.{FailsCheck, sources_of}
use Rattle.varisat_proof.proofs.VerifiedTexts.{verifies_marked, marked_ok, marked_err, fails_reading, fails_marked, error_in, wrong_proof, no_verdict}
use Rattle.varisat_proof.proofs.program.verify_marked_in.Goals as goal

pub returns-in-Ok-clause-verified : goal.returns-in-Ok-clause-verified
returns-in-Ok-clause-verified g c =
    verifies_marked (g.S.ByteSource.input c.args.cnf.now) (g.S.ByteSource.input c.add_dimacs_cnf.new.source) (g.P.ByteSource.input c.args.proof.now)
    (g.P.ByteSource.input c.check_marked.new.source) c.args.given.now c.add_dimacs_cnf.new.self (Ok c.in-Ok.report.verdict)
    c.in-Ok.report.inputs.clauses c.check_marked.new.self.clauses c.is_refuted_by.result c.requires.new c.in_ok-add_dimacs_cnf.ensures
    (marked_ok c.args.checker.now c.check_marked.new.self c.in-Ok.report (g.P.ByteSource.input c.args.proof.now)
    (g.P.ByteSource.input c.check_marked.new.source) c.requires.checker_new c.in-Ok.ensures.checks) c.is_refuted_by.ensures

pub returns-in_ok-verified-in-Err-clause-verified : goal.returns-in_ok-verified-in-Err-clause-verified
returns-in_ok-verified-in-Err-clause-verified g c =
    verifies_marked (g.S.ByteSource.input c.args.cnf.now) (g.S.ByteSource.input c.add_dimacs_cnf.new.source) (g.P.ByteSource.input c.args.proof.now)
    (g.P.ByteSource.input c.check_marked.new.source) c.args.given.now c.add_dimacs_cnf.new.self (Err c.in-Err.error) []
    c.check_marked.new.self.clauses c.in_ok-verified-in-Err.verified c.requires.new c.in_ok-add_dimacs_cnf.ensures
    (marked_err c.args.checker.now c.check_marked.new.self c.in-Err.error (g.P.ByteSource.input c.args.proof.now)
    (g.P.ByteSource.input c.check_marked.new.source) c.requires.checker_new c.in-Err.ensures.checks)
    (wrong_proof c.in-Err.error c.in_ok-verified-in-Err.verified c.in_ok-verified-in-Err.ensures.verdict)

pub returns-in_err-add_dimacs_cnf-clause-fails : goal.returns-in_err-add_dimacs_cnf-clause-fails
returns-in_err-add_dimacs_cnf-clause-fails g c =
    let e = c.in_err-add_dimacs_cnf in
    passed-on c.from_residual.result e.field-0.0 _ c.from_residual.ensures (fails_reading _ _ _ c.args.given.now _ e.field-0.0 c.requires.new e.ensures)

pub returns-in_err-verified-in-Err-clause-fails : goal.returns-in_err-verified-in-Err-clause-fails
returns-in_err-verified-in-Err-clause-fails g c =
    passed-on c.from_residual-in_err-verified-in-Err.result c.in_err-verified-in-Err.field-0.0 (FailsCheck
    (sources_of (g.S.ByteSource.input c.args.cnf.now) (g.P.ByteSource.input c.args.proof.now))
    (sources_of (g.S.ByteSource.input c.add_dimacs_cnf.new.source) (g.P.ByteSource.input c.check_marked.new.source))) c.from_residual-in_err-verified-in-Err.ensures
    (subst (FailsCheck (sources_of (g.S.ByteSource.input c.args.cnf.now) (g.P.ByteSource.input c.args.proof.now))
    (sources_of (g.S.ByteSource.input c.add_dimacs_cnf.new.source) (g.P.ByteSource.input c.check_marked.new.source)))
    (ap error_in c.in_err-verified-in-Err.ensures.fault.0)
    (fails_marked _ _ _ _ c.args.given.now c.add_dimacs_cnf.new.self c.in-Err.error c.check_marked.new.self.clauses c.requires.new
    c.in_ok-add_dimacs_cnf.ensures
    (marked_err c.args.checker.now c.check_marked.new.self c.in-Err.error (g.P.ByteSource.input c.args.proof.now)
    (g.P.ByteSource.input c.check_marked.new.source) c.requires.checker_new c.in-Err.ensures.checks)
    (no_verdict c.in-Err.error c.in_err-verified-in-Err.ensures.fault.1)))
