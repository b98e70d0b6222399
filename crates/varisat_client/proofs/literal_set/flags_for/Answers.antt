use Rattle.std.proofs.Common.{◌<◌, ◌≤◌, ◌^◌, take, sym, subst, arith}
use Rattle.varisat_theory.proofs.clauses.Places.{∈-take_all}
use Rattle.varisat_solver.proofs.calls.ReadPlaces.{take-item}
use Rattle.varisat_client.specs.inside.LiteralSets.{HaveFlags}
use Rattle.varisat_client.proofs.SetFlags.{below-push}
use Rattle.varisat_client.proofs.literal_set.flags_for.Goals as goal
use Rattle.varisat_client.proofs.literal_set.flags_for.Goals.{then-count-code, else-count-code}

pub loop-lit-preserved : goal.loop-lit-preserved
loop-lit-preserved c =
    let ls = c.args.lits.now in
    let k = c.loop-lit.lit-index in
    let l = c.lit-item.result in
    let small = c.loop-lit.invariant.1 in
    let b : (c.loop-lit.count ≤ c.if-count-code.count) × (l < c.if-count-code.count) × (c.if-count-code.count ≤ 2 ^ 32) =
    elim c.if-count-code.branch [
      | then-count-code w ↦ (
        omega (arith, w.if-count-code.true, w.count-is, c.code-code.ensures.code),
        omega (arith, w.if-count-code.true, w.count-is, c.code-code.ensures.code),
        omega (arith, w.count-is, c.code-code.ensures.small),
      )
      | else-count-code w ↦ (
        omega (arith, w.count-is),
        omega (arith, w.if-count-code.false, w.count-is, c.code-code.ensures.code),
        omega (arith, w.count-is, small),
      )
    ] in (
      subst (HaveFlags c.if-count-code.count) (sym (take-item ls k l c.loop-lit-test.true c.lit-item.is))
          (below-push c.loop-lit.count c.if-count-code.count (take k ls) l b.0 b.1 c.loop-lit.invariant.0),
      b.2,
    )

pub returns-clause-enough : goal.returns-clause-enough
returns-clause-enough c = λ l i. c.loop-lit.invariant.0 l (∈-take_all l c.args.lits.now c.loop-lit.lit-index c.loop-lit-test.false i)
