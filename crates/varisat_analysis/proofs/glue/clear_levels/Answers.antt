use Rattle.std.proofs.Common.{length, take_all, subst}
use Rattle.varisat_analysis.specs.Bumps.{level_in}
use Rattle.varisat_analysis.proofs.BumpedVariables.{item-below, Clears, clears-none, clears-more}
use Rattle.varisat_analysis.proofs.CountedLevels.{level-is, has-node}
use Rattle.varisat_analysis.proofs.glue.clear_levels.Goals as goal

pub loop-lit-init : goal.loop-lit-init
loop-lit-init g c = clears-none (level_in c.args.impl_graph.now.nodes.items) c.args.flags.now

pub level-level-requires : goal.level-level-requires
level-level-requires g c = has-node c.args.impl_graph.now.nodes.items c.args.lits.now c.requires.known c.loop-lit-test.true c.lit-item.is c.var.ensures

pub bounds-flags-level : goal.bounds-flags-level
bounds-flags-level g c =
    let nodes = c.args.impl_graph.now.nodes.items in
    let e = level-is nodes c.lit-item.result c.var.result c.level-level.result c.var.ensures c.level-level.ensures in
    item-below (level_in nodes) c.args.lits.now c.loop-lit.lit-index c.lit-item.result c.level-level.result (length c.args.flags.now)
    (length c.loop-lit.flags) c.requires.room c.loop-lit.auto.flags c.loop-lit-test.true c.lit-item.is e

pub loop-lit-preserved : goal.loop-lit-preserved
loop-lit-preserved g c =
    let nodes = c.args.impl_graph.now.nodes.items in
    let e = level-is nodes c.lit-item.result c.var.result c.level-level.result c.var.ensures c.level-level.ensures in
    clears-more (level_in nodes) c.args.lits.now c.args.flags.now c.loop-lit.flags c.loop-lit.lit-index c.lit-item.result c.level-level.result
    c.requires.room c.loop-lit.auto.flags c.loop-lit-test.true c.lit-item.is e c.loop-lit.invariant

pub returns-clause-gone : goal.returns-clause-gone
returns-clause-gone g c = (subst (λ ls. Clears (level_in c.args.impl_graph.now.nodes.items) ls c.args.flags.now c.loop-lit.flags)
    (take_all c.loop-lit.lit-index c.args.lits.now c.loop-lit-test.false) c.loop-lit.invariant).gone
