-- Each call that fails took a beginning of the text.
use Rattle.std.proofs.Common.{refl, [], append-nil, sym}
use Rattle.varisat_proof.proofs.PrintedTexts.{flushed, failed-part}
use Rattle.varisat_proof.proofs.program.print_text.Goals as goal

pub returns-in_err-put : goal.returns-in_err-put
returns-in_err-put g c =
    failed-part (g.T.ProofTarget.taken c.args.target.now) (g.T.ProofTarget.taken c.args.target.now) _ c.from_residual.result [] c.args.text.now []
    c.args.text.now c.from_residual.ensures.0 (sym (append-nil _)) refl (append-nil c.args.text.now) c.in_err-put.ensures.begun c.in_err-put.ensures.fault

pub returns : goal.returns
returns g c = flushed (g.T.ProofTarget.taken c.args.target.now) _ _ c.flush.result c.args.text.now c.in_ok-put.ensures.whole c.in_ok-put.ensures.quiet
    c.flush.ensures.same c.flush.ensures.quiet c.flush.ensures.fault
