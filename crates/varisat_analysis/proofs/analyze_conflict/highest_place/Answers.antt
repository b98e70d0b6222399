use Rattle.std.proofs.lemmas.Grind.{common_steps}
use Rattle.std.proofs.Common.{length, ap, arith}
use Rattle.varisat_prop.proofs.views.ReadElements.{item-∈}
use Rattle.varisat_analysis.proofs.analyze_conflict.highest_place.Goals as goal

pub level-level-requires : goal.level-level-requires
level-level-requires g c =
    let (_, (sees, (range, _))) = c.requires in
    let i = range c.index-clause-place.result
    (item-∈ c.args.clause.now c.loop-place.place c.index-clause-place.result (omega (arith, c.loop-place-test.true)) c.index-clause-place.is) in
    let n = ap (λ x. length x) sees.nodes_are in
    omega (arith, i, n, c.var.ensures)

pub level-requires : goal.level-requires
level-requires g c =
    let (_, (sees, (range, _))) = c.requires in
    let i = range c.index-clause-highest.result
    (item-∈ c.args.clause.now c.loop-place.highest c.index-clause-highest.result c.loop-place.invariant.within c.index-clause-highest.is) in
    let n = ap (λ x. length x) sees.nodes_are in
    omega (arith, i, n, c.var-in-loop-place.ensures)

pub loop-place-preserved : goal.loop-place-preserved
loop-place-preserved g c = grind (arith, common_steps)
