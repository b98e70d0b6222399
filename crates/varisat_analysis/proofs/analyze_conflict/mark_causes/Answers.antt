use Rattle.std.proofs.lemmas.Grind.{common_steps}
use Rattle.std.proofs.Common.{arith}
use Rattle.varisat_analysis.proofs.WellFormedViews.{read-inside, reason-read}
use Rattle.varisat_analysis.proofs.AnalysisMarks.{is-at, can-still}
use Rattle.varisat_analysis.proofs.AnalysisSearch.{explored-none, explored-one}
use Rattle.varisat_analysis.proofs.analyze_conflict.mark_causes.Goals as goal

pub level_to_mark-requires : goal.level_to_mark-requires
level_to_mark-requires g c κs within =
    let (_, (can, falsified)) = c.requires in
    let p = is-at can falsified c.loop-lit-test.true c.lit-item.is c.loop-lit.auto.var_flags in
    (within, (can-still can c.loop-lit.auto.var_flags, p.false_now))

pub reason-requires : goal.reason-requires
reason-requires g c =
    let (_, (can, falsified)) = c.requires in
    let sees = can.sees in
    let p = is-at can falsified c.loop-lit-test.true c.lit-item.is c.loop-lit.auto.var_flags in
    read-inside g.s sees.well c.args.parts.impl_graph.now.nodes.items c.lit-item.result c.var.result sees.nodes_are c.var.ensures p.false_now

pub loop-lit-preserved-in_default : goal.loop-lit-preserved-in_default
loop-lit-preserved-in_default g c =
    let (_, (can, falsified)) = c.requires in
    let p = is-at can falsified c.loop-lit-test.true c.lit-item.is c.loop-lit.auto.var_flags in
    explored-none p c.loop-lit.auto.var_flags c.loop-lit.invariant c.in_default.ensures

pub loop-lit-preserved : goal.loop-lit-preserved
loop-lit-preserved g c =
    let (_, (can, falsified)) = c.requires in
    let p = is-at can falsified c.loop-lit-test.true c.lit-item.is c.loop-lit.auto.var_flags in
    let r = reason-read g.s c.args.parts.impl_graph.now.nodes.items c.lit-item.result c.var.result c.reason.result.now can.sees.nodes_are
    c.var.ensures c.reason.ensures in
    explored-one p c.loop-lit.auto.var_flags c.loop-lit.invariant c.index.result c.reason.result.now c.index.ensures.index r
    (λ q. let b = c.if-is_unit.ensures.1 q in absurd cc) c.in-Some.ensures.2
    c.push.new.self.items c.push-in-loop-lit.new.self.items c.var-in-loop-lit-2.result c.not.result c.in_ok-push.ensures.items
    c.var-in-loop-lit-2.ensures c.in_ok-push-2.ensures.items c.not.ensures

pub returns : goal.returns
returns g c = grind (arith, common_steps)
