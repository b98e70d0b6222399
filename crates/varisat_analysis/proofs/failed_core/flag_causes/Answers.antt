use Rattle.std.proofs.Common.{◌∙◌, arith}
use Rattle.varisat_prop.proofs.views.ReadElements.{item-∈}
use Rattle.varisat_analysis.proofs.WellFormedViews.{read-inside, level-read}
use Rattle.varisat_analysis.proofs.CoreWalk.{flags-start, flags-skip, flags-set, flags-end, cause-flag}
use Rattle.varisat_analysis.proofs.failed_core.flag_causes.Goals as goal

pub loop-lit-init : goal.loop-lit-init
loop-lit-init g c = flags-start g.s c.args.flags.now

pub level-requires : goal.level-requires
level-requires g c =
    let (_, (sees, (_, falsified))) = c.requires in
    let m = c.lit-item.result in
    let f = falsified m (item-∈ c.args.lits.now c.loop-lit.lit-index m c.loop-lit-test.true c.lit-item.is) in
    read-inside g.s sees.well c.args.parts.impl_graph.now.nodes.items m c.var.result sees.nodes_are c.var.ensures f

pub bounds-flags-code : goal.bounds-flags-code
bounds-flags-code g c =
    let (_, (sees, (flags, falsified))) = c.requires in
    let b = cause-flag g.s sees.well c.args.lits.now c.loop-lit.lit-index c.lit-item.result c.loop-lit.flags falsified
    (c.loop-lit.auto.flags ∙ flags) c.loop-lit-test.true c.lit-item.is in
    omega (arith, b, c.code.ensures.code, c.not-cause.ensures)

pub loop-lit-preserved-then-level-eq0 : goal.loop-lit-preserved-then-level-eq0
loop-lit-preserved-then-level-eq0 g c =
    let (_, (sees, (_, _))) = c.requires in
    let m = c.lit-item.result in
    let l = level-read g.s c.args.parts.impl_graph.now.nodes.items m c.var.result c.level.result sees.nodes_are c.var.ensures c.level.ensures in
    let z = c.if-level-eq0.true in
    flags-skip g.s c.args.lits.now c.loop-lit.lit-index m c.args.flags.now c.loop-lit.flags c.loop-lit-test.true c.lit-item.is c.loop-lit.invariant
    (λ a. absurd (omega (arith, l, z, a)))

pub loop-lit-preserved : goal.loop-lit-preserved
loop-lit-preserved g c =
    let (_, (sees, (flags, falsified))) = c.requires in
    let m = c.lit-item.result in
    let b = cause-flag g.s sees.well c.args.lits.now c.loop-lit.lit-index m c.loop-lit.flags falsified
    (c.loop-lit.auto.flags ∙ flags) c.loop-lit-test.true c.lit-item.is in
    let l = level-read g.s c.args.parts.impl_graph.now.nodes.items m c.var.result c.level.result sees.nodes_are c.var.ensures c.level.ensures in
    let z = c.if-level-eq0.false in
    flags-set g.s c.args.lits.now c.loop-lit.lit-index m c.args.flags.now c.loop-lit.flags c.loop-lit-test.true c.lit-item.is c.loop-lit.invariant
    c.code.result (c.code.ensures.code ∙ c.not-cause.ensures) (omega (arith, b, c.code.ensures.code, c.not-cause.ensures)) (omega (arith, l, z))

pub returns : goal.returns
returns g c = flags-end g.s c.args.lits.now c.loop-lit.lit-index c.args.flags.now c.loop-lit.flags (omega (arith, c.loop-lit-test.false)) c.loop-lit.invariant
