use Rattle.varisat_proof.specs.promises.Verified.{verdict_status, verdict_text}
use Rattle.varisat_proof.proofs.PrintedTexts.{ends-printed, ends-failed}
use Rattle.varisat_proof.proofs.program.print_verdict.Goals as goal

pub returns-in-Ok : goal.returns-in-Ok
returns-in-Ok g c = ends-printed (verdict_status c.args.verified) (verdict_text c.args.verified) c.text_of.result.now _ _ _ c.text_of.ensures
    c.status_of.ensures c.in-Ok.ensures

pub returns-in-Err : goal.returns-in-Err
returns-in-Err g c = ends-failed (verdict_status c.args.verified) (verdict_text c.args.verified) c.text_of.result.now _ _ _ c.text_of.ensures
    c.print_fault.ensures c.in-Err.ensures
