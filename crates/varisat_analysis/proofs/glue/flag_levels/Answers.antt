use Rattle.std.proofs.Common.{ℕ, ◌+◌, Bool, not, true, false, take, take_all, get_or, set, sym, ap, ◌∙◌, subst, arith}
use mir.Val.{bool_byte}
use Rattle.varisat_prop.proofs.views.ReadElements.{item-∈}
use Rattle.varisat_analysis.specs.Bumps.{level_in}
use Rattle.varisat_analysis.proofs.BumpedVariables.{item-snoc}
use Rattle.varisat_analysis.proofs.CountedLevels.{level-is, has-node, level-flagged, Counts, counts-none, counts-marked, counts-all, counts-only, one-at-most}
use Rattle.varisat_analysis.proofs.glue.flag_levels.Goals as goal

pub loop-lit-init : goal.loop-lit-init
loop-lit-init g c = record { counts = counts-none (level_in c.args.impl_graph.now.nodes.items) c.args.flags.now c.requires.clear; few = omega arith }

pub level-level-requires : goal.level-level-requires
level-level-requires g c = has-node c.args.impl_graph.now.nodes.items c.args.lits.now c.requires.known c.loop-lit-test.true c.lit-item.is c.var.ensures

pub bounds-flags-level : goal.bounds-flags-level
bounds-flags-level g c =
    level-flagged c.args.impl_graph.now.nodes.items c.args.lits.now c.args.flags.now c.loop-lit.flags c.requires.room c.loop-lit.auto.flags
    c.loop-lit-test.true c.lit-item.is c.var.ensures c.level-level.ensures

pub bounds-flags-level-in-loop-lit : goal.bounds-flags-level-in-loop-lit
bounds-flags-level-in-loop-lit g c =
    level-flagged c.args.impl_graph.now.nodes.items c.args.lits.now c.args.flags.now c.loop-lit.flags c.requires.room c.loop-lit.auto.flags
    c.loop-lit-test.true c.lit-item.is c.var.ensures c.level-level.ensures

pub loop-lit-preserved : goal.loop-lit-preserved
loop-lit-preserved g c =
    let nodes = c.args.impl_graph.now.nodes.items in
    let lits = c.args.lits.now in
    let k = c.loop-lit.lit-index in
    let l = c.lit-item.result in
    let f = c.loop-lit.flags in
    let e = level-is nodes l c.var.result c.level-level.result c.var.ensures c.level-level.ensures in
    let i = c.requires.room l (item-∈ lits k l c.loop-lit-test.true c.lit-item.is) in
    let n = c.loop-lit.auto.flags in
    let few = c.loop-lit.invariant.few in
    let more = bool_byte (not (get_or f c.level-level.result false)) in
    record {
      counts = subst (λ v. Counts (level_in nodes) (take (k + 1) lits) (set f v true) (c.loop-lit.count + more)) (sym e)
          (subst (λ ls. Counts (level_in nodes) ls (set f (level_in nodes l) true) (c.loop-lit.count + more))
          (sym (item-snoc k lits l c.loop-lit-test.true c.lit-item.is))
          (counts-marked (level_in nodes) (take k lits) l f c.loop-lit.count more c.loop-lit.invariant.counts (omega (arith, i, n))
          (λ h. ap (λ (b : Bool). bool_byte (not b)) (ap (λ (v : ℕ). get_or f v false) e ∙ h))
          (λ h. ap (λ (b : Bool). bool_byte (not b)) (ap (λ (v : ℕ). get_or f v false) e ∙ h))));
      few = let one = one-at-most (not (get_or f c.level-level.result false)) in omega (arith, few, one);
    }

pub returns-clause-count : goal.returns-clause-count
returns-clause-count g c =
    let nodes = c.args.impl_graph.now.nodes.items in
    counts-all (level_in nodes) c.args.lits.now c.loop-lit.flags c.loop-lit.count
    (subst (λ ls. Counts (level_in nodes) ls c.loop-lit.flags c.loop-lit.count)
    (take_all c.loop-lit.lit-index c.args.lits.now c.loop-lit-test.false) c.loop-lit.invariant.counts)

pub returns-clause-only : goal.returns-clause-only
returns-clause-only g c n h =
    let nodes = c.args.impl_graph.now.nodes.items in
    counts-only (level_in nodes) c.args.lits.now c.loop-lit.flags c.loop-lit.count n
    (subst (λ ls. Counts (level_in nodes) ls c.loop-lit.flags c.loop-lit.count)
    (take_all c.loop-lit.lit-index c.args.lits.now c.loop-lit-test.false) c.loop-lit.invariant.counts) h
