-- The literals stand behind each other, and each call that fails took a beginning of its part.
use Rattle.std.proofs.Common.{◌∷◌, ◌++◌, ap, ◌∙◌, append_assoc, codes, flat_map, take, sym}
use Rattle.varisat_literals.specs.promises.Numbers.{literal_text}
use Rattle.varisat_formula.proofs.TargetParts.{puts_behind}
use Rattle.varisat_proof.proofs.PrintedTexts.{put-once, failed-part}
use Rattle.varisat.specs.promises.Lines.{literals_text}
use Rattle.varisat.proofs.PrintedLists.{behind-item, all-taken}
use Rattle.varisat.proofs.program.put_literals.Goals as goal

pub returns-in_err-put_literal : goal.returns-in_err-put_literal
returns-in_err-put_literal g c =
    let ls = c.args.literals.now in
    let i = c.loop-literal.literal-index in
    let l = c.literal-item.result in
    let front = flat_map (λ n. 32 ∷ literal_text n) (take i ls) in
    let (more, e) = behind-item (λ n. 32 ∷ literal_text n) (codes " 0") ls i l c.loop-literal-test.true c.literal-item.is in
    failed-part (g.T.ProofTarget.taken c.args.out.now) _ _ c.from_residual.result front (32 ∷ literal_text l) more (literals_text ls)
    c.from_residual.ensures.0 c.loop-literal.invariant.put c.loop-literal.invariant.quiet (sym (append_assoc front (32 ∷ literal_text l) more) ∙ e)
    c.in_err-put_literal.ensures.0 c.in_err-put_literal.ensures.1

pub returns : goal.returns
returns g c =
    let ls = c.args.literals.now in
    let i = c.loop-literal.literal-index in
    puts_behind (g.T.ProofTarget.taken c.args.out.now) _ _ c.put.result (flat_map (λ n. 32 ∷ literal_text n) (take i ls)) (codes " 0") (literals_text ls)
    c.loop-literal.invariant.put c.loop-literal.invariant.quiet
    (ap (λ xs. flat_map (λ n. 32 ∷ literal_text n) xs ++ codes " 0") (all-taken ls i c.loop-literal-test.false))
    (put-once _ _ c.put.result (codes " 0") c.put.ensures.whole c.put.ensures.begun c.put.ensures.quiet c.put.ensures.fault)
