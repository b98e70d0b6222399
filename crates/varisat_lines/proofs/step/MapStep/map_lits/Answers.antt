use Rattle.std.proofs.lemmas.Grind.{common_steps}
use Rattle.std.proofs.Common.{arith}
use Rattle.std.proofs.lemmas.List.{get_or_read}
use Rattle.varisat_lines.proofs.MappedSteps.{maps_lit, maps_more}
use Rattle.varisat_lines.proofs.step.MapStep.map_lits.Goals as goal

pub loop-lit-preserved : goal.loop-lit-preserved
loop-lit-preserved g c =
    maps_more (goal.F-post g c.args.map_var.now) c.args.lits.now c.loop-lit.self.lits.items c.push.new.self.items c.loop-lit.lit-index
    c.lit-item.result c.lit.result c.loop-lit-test.true
    (get_or_read c.args.lits.now c.loop-lit.lit-index c.lit-item.result c.loop-lit-test.true c.lit-item.is 0) c.loop-lit.invariant
    c.in_ok-push.ensures.items
    (maps_lit (goal.F-post g c.args.map_var.now) c.lit-item.result c.var.result c.map_var.result c.lit.result c.is_positive.result c.var.ensures
    c.map_var.ensures c.is_positive.ensures c.lit.ensures)

pub returns : goal.returns
returns g c = grind (arith, common_steps)
