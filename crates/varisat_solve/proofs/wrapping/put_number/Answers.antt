-- The number stands behind what parts it from the one before, and each call that fails took a beginning of its part.
use Rattle.std.proofs.Common.{refl, sym, append-nil, [], length}
use Rattle.varisat_formula.proofs.TargetParts.{puts_behind}
use Rattle.varisat_proof.proofs.PrintedTexts.{put-once, failed-part}
use Rattle.varisat_solve.specs.promises.Wrapping.{parting, placed}
use Rattle.varisat_solve.proofs.wrapping.put_number.Goals as goal

pub returns-in_err-put_parting : goal.returns-in_err-put_parting
returns-in_err-put_parting g c =
    let number = c.args.number.now in
    failed-part (g.T.ProofTarget.taken c.args.out.now) (g.T.ProofTarget.taken c.args.out.now) _ c.from_residual.result [] (parting c.args.room (length number))
    number (placed c.args.room number) c.from_residual.ensures.0 (sym (append-nil _)) refl refl c.in_err-put_parting.ensures.0 c.in_err-put_parting.ensures.1

pub returns : goal.returns
returns g c =
    let number = c.args.number.now in
    puts_behind (g.T.ProofTarget.taken c.args.out.now) _ _ c.put.result (parting c.args.room (length number)) number (placed c.args.room number)
    c.in_ok-put_parting.ensures.0 c.in_ok-put_parting.ensures.1 refl
    (put-once _ _ c.put.result number c.put.ensures.whole c.put.ensures.begun c.put.ensures.quiet c.put.ensures.fault)
