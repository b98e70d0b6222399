use Rattle.std.proofs.Common.{arith}
use Rattle.varisat_prop.proofs.views.ReadElements.{item-∈}
use Rattle.varisat_analysis.proofs.analyze_conflict.levels_of.Goals as goal

pub level-requires : goal.level-requires
level-requires g c =
    let i = c.requires c.lit-item.result (item-∈ c.args.clause.now c.loop-lit.lit-index c.lit-item.result c.loop-lit-test.true c.lit-item.is) in
    omega (arith, i, c.var.ensures)
