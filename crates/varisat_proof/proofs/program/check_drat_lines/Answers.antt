use Rattle.std.proofs.Common.{inl, refl}
use Rattle.varisat_proof.specs.promises.Verified.{sources_of}
use Rattle.varisat_proof.proofs.VerifiedTexts.{drat_status, drat_unsatisfiable}
use Rattle.varisat_proof.proofs.program.check_drat_lines.Goals as goal

pub returns-in-Ok-clause-truth : goal.returns-in-Ok-clause-truth
returns-in-Ok-clause-truth g c =
    drat_status _ _ c.in-Ok.verified _ _ _ _ c.print_verdict.ensures
    (drat_unsatisfiable c.args.format (sources_of (g.S.ByteSource.input c.args.cnf.now) (g.P.ByteSource.input c.args.proof.now))
    (sources_of (g.S.ByteSource.input c.verify_drat.new.cnf) (g.P.ByteSource.input c.verify_drat.new.proof)) c.in-Ok.verified c.in-Ok.ensures.verified)

pub returns-in-Err-clause-outcome : goal.returns-in-Err-clause-outcome
returns-in-Err-clause-outcome g c = inl (c.in-Err.error, c.in-Err.ensures.fails, c.print_fault.ensures, refl)
