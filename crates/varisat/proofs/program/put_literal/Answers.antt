-- The number stands behind the space, and each call that fails took a beginning of its part.
use Rattle.std.proofs.Common.{◌≡◌, ◌∷◌, [], refl, sym, ap, codes, append-nil, rules}
use Rattle.varisat_literals.specs.promises.Numbers.{literal_text}
use Rattle.varisat_formula.proofs.TargetParts.{puts_behind}
use Rattle.varisat_proof.proofs.PrintedTexts.{put-once, failed-part}
use Rattle.varisat.proofs.program.put_literal.Goals as goal

pub returns-in_err-put : goal.returns-in_err-put
returns-in_err-put g c =
    failed-part (g.T.ProofTarget.taken c.args.out.now) (g.T.ProofTarget.taken c.args.out.now) _ c.from_residual.result [] (codes " ")
    (literal_text c.args.literal) (32 ∷ literal_text c.args.literal) c.from_residual.ensures.0 (sym (append-nil _)) refl refl c.in_err-put.ensures.begun
    c.in_err-put.ensures.fault

pub returns : goal.returns
returns g c =
    let e : c.as_bytes.result.now ≡ literal_text c.args.literal = search rules in
    puts_behind (g.T.ProofTarget.taken c.args.out.now) _ _ c.put-2.result (codes " ") c.as_bytes.result.now (32 ∷ literal_text c.args.literal)
    c.in_ok-put.ensures.whole c.in_ok-put.ensures.quiet (ap (λ xs. 32 ∷ xs) e)
    (put-once _ _ c.put-2.result c.as_bytes.result.now c.put-2.ensures.whole c.put-2.ensures.begun c.put-2.ensures.quiet c.put-2.ensures.fault)
