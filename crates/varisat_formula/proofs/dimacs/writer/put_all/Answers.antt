use Rattle.std.proofs.lemmas.Result.{err_from_is_err_and}
use Rattle.std.proofs.lemmas.Grind.{common_steps}
use Rattle.std.proofs.Common.{take, drop, suc, flat_map, ◌∙◌, ap, ◌+◌, arith}
use Rattle.varisat_formula.proofs.TargetParts.{begun_part, parts_split}
use Rattle.varisat_formula.proofs.dimacs.writer.put_all.Goals as goal

pub returns-in_err-put : goal.returns-in_err-put
returns-in_err-put g c =
    let p = err_from_is_err_and c.from_residual.result c.from_residual.ensures.1 in rw p.1
    let parts = c.args.parts.now in
    let i = c.loop-part.part-index in
    let b = c.in_err-put.ensures.begun in (
      begun_part _ _ _ (flat_map (λ p. p.now) (take i parts)) _ (flat_map (λ p. p.now) (drop (suc i) parts)) _ b.0 c.loop-part.invariant.put b.1
          (parts_split (λ p. p.now) parts i _ c.loop-part-test.true),
      c.in_err-put.ensures.fault ∙ ap (λ n. n + 1) c.loop-part.invariant.quiet,
    )

pub loop-part-preserved : goal.loop-part-preserved
loop-part-preserved g c = grind (arith, common_steps)

pub returns : goal.returns
returns g c = grind (arith, common_steps)
