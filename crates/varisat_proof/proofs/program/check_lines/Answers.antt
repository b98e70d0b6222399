use Rattle.std.proofs.Common.{inl, refl}
use Rattle.varisat_proof.proofs.VerifiedTexts.{status_is_true}
use Rattle.varisat_proof.proofs.program.check_lines.Goals as goal

pub returns-in-Ok-clause-truth : goal.returns-in-Ok-clause-truth
returns-in-Ok-clause-truth g c = status_is_true c.args.format _ _ c.in-Ok.verified _ _ _ _ c.print_verdict.ensures c.in-Ok.ensures.verified

pub returns-in-Err-clause-outcome : goal.returns-in-Err-clause-outcome
returns-in-Err-clause-outcome g c = inl (c.in-Err.error, c.in-Err.ensures.fails, c.print_fault.ensures, refl)
