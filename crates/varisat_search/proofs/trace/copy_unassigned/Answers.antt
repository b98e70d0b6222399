use Rattle.std.proofs.lemmas.Grind.{common_steps}
use Rattle.std.proofs.Common.{arith}
use Rattle.varisat_search.proofs.trace.copy_unassigned.Goals as goal
use Rattle.varisat_prop.proofs.views.ReadElements.{item-∈}

pub lit_is_unk-requires : goal.lit_is_unk-requires
lit_is_unk-requires g c = c.requires c.lit-item.result (item-∈ c.args.lits.now c.loop-lit.lit-index c.lit-item.result c.loop-lit-test.true c.lit-item.is)

pub loop-lit-preserved : goal.loop-lit-preserved
loop-lit-preserved g c = grind (arith, common_steps)

pub returns : goal.returns
returns g c = grind (arith, common_steps)
