use Rattle.varisat_steps.proofs.Broken.{passed-on}
use Rattle.varisat_proof.specs.promises.Verified.{FailsCheck, sources_of}
use Rattle.varisat_proof.proofs.VerifiedTexts.{verifies, fails_reading, fails_checking}
use Rattle.varisat_proof.proofs.program.verify_in.Goals as goal

pub returns-clause-verified : goal.returns-clause-verified
returns-clause-verified g c =
    verifies c.args.format _ _ _ _ c.args.checker.now c.add_dimacs_cnf.new.self c.check_proof.new.self c.check_proof.result
    c.in_ok-verified.verified c.requires.new c.in_ok-add_dimacs_cnf.ensures c.check_proof.ensures.checks c.in_ok-verified.ensures.verdict

pub returns-in_err-add_dimacs_cnf-clause-fails : goal.returns-in_err-add_dimacs_cnf-clause-fails
returns-in_err-add_dimacs_cnf-clause-fails g c =
    let e = c.in_err-add_dimacs_cnf in
    passed-on c.from_residual.result e.field-0.0 _ c.from_residual.ensures (fails_reading _ _ _ c.args.checker.now _ e.field-0.0 c.requires.new e.ensures)

pub returns-in_err-verified-clause-fails : goal.returns-in_err-verified-clause-fails
returns-in_err-verified-clause-fails g c =
    passed-on c.from_residual-in_err-verified.result c.in_err-verified.field-0.0 (FailsCheck
    (sources_of (g.S.ByteSource.input c.args.cnf.now) (g.P.ByteSource.input c.args.proof.now))
    (sources_of (g.S.ByteSource.input c.add_dimacs_cnf.new.source) (g.P.ByteSource.input c.check_proof.new.source))) c.from_residual-in_err-verified.ensures
    (fails_checking c.args.format _ _ _ _ c.args.checker.now c.add_dimacs_cnf.new.self c.check_proof.new.self c.check_proof.result
    c.in_err-verified.field-0.0 c.requires.new c.in_ok-add_dimacs_cnf.ensures c.check_proof.ensures.checks c.in_err-verified.ensures.fault.0
    c.in_err-verified.ensures.fault.1)
