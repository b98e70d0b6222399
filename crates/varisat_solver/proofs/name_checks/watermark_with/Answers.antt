use Rattle.std.proofs.Common.{◌≡◌, ◌+◌, ◌∷◌, [], max, ap, ◌∙◌, take, arith}
use Rattle.varisat_theory.specs.promises.Literals.{variable_of}
use Rattle.varisat_solver.specs.promises.Names.{Naming, name_all}
use Rattle.varisat_solver.specs.inside.Accepting.{naming_of}
use Rattle.varisat_solver.proofs.accepting.NamesComing.{all-append, one-watermark}
use Rattle.varisat_solver.proofs.calls.ReadPlaces.{take-item}
use Rattle.varisat_solver.proofs.name_checks.watermark_with.Goals.{then-index-watermark, else-index-watermark}
use Rattle.varisat_solver.proofs.name_checks.watermark_with.Goals as goal

pub loop-lit-preserved : goal.loop-lit-preserved
loop-lit-preserved g c =
    let l = c.lit-item.result in
    let m = naming_of c.args.variables.now in
    let d = take c.loop-lit.lit-index c.args.clause.now in
    let t = take-item c.args.clause.now c.loop-lit.lit-index l c.loop-lit-test.true c.lit-item.is in
    let next : (name_all (take (c.loop-lit.lit-index + 1) c.args.clause.now) m).watermark ≡ max (name_all d m).watermark (variable_of l + 1) =
    ap (λ ls. (name_all ls m).watermark) t ∙ ap (λ (n : Naming). n.watermark) (all-append d (l ∷ []) m) ∙ one-watermark (variable_of l) (name_all d m) in
    let i = c.index.ensures.index in
    let h = c.loop-lit.invariant in
    elim c.if-index-watermark.branch [
      | then-index-watermark w ↦ let a = w.watermark-is in let b = w.index-watermark.ensures.index in let e = w.if-index-watermark.true in
          omega (arith, next, i, h, a, b, e)
      | else-index-watermark w ↦ let a = w.watermark-is in let e = w.if-index-watermark.false in omega (arith, next, i, h, a, e)
    ]
