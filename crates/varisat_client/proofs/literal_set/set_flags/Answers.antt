use Rattle.std.proofs.Common.{take, set, true, sym, subst, arith, length-set, ◌∙◌}
use Rattle.varisat_prop.proofs.views.ReadElements.{item-∈}
use Rattle.varisat_solver.proofs.calls.ReadPlaces.{take-item}
use Rattle.varisat_client.specs.inside.LiteralSets.{IsSetOf}
use Rattle.varisat_client.proofs.SetFlags.{set-push}
use Rattle.varisat_client.proofs.literal_set.set_flags.Goals as goal

pub bounds-flags-code : goal.bounds-flags-code
bounds-flags-code c =
    let h = c.requires.known c.lit-item.result (item-∈ c.args.lits.now c.loop-lit.lit-index c.lit-item.result c.loop-lit-test.true c.lit-item.is) in
    let n = c.loop-lit.invariant.1 in
    omega (arith, h, n, c.code.ensures.code)

pub loop-lit-preserved : goal.loop-lit-preserved
loop-lit-preserved c =
    let ls = c.args.lits.now in
    let l = c.lit-item.result in
    let k = c.loop-lit.lit-index in
    let h = c.requires.known l (item-∈ ls k l c.loop-lit-test.true c.lit-item.is) in
    let n = c.loop-lit.invariant.1 in (
      subst (λ ks. IsSetOf ks (set c.loop-lit.flags c.code.result true)) (sym (take-item ls k l c.loop-lit-test.true c.lit-item.is))
          (set-push (take k ls) l c.loop-lit.flags c.code.result c.code.ensures.code (omega (arith, h, n, c.code.ensures.code)) c.loop-lit.invariant.0),
      length-set c.loop-lit.flags c.code.result true ∙ n,
    )
