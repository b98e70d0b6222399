use Rattle.std.proofs.lemmas.Grind.{common_steps}
use Rattle.std.proofs.Common.{true, length, set, sym, ap, ◌∙◌, arith}
use Rattle.varisat_analysis.specs.Marks.{marking}
use Rattle.varisat_analysis.proofs.AnalysisMarks.{is-at, can-still, added-none, added-late, added-lower}
use Rattle.varisat_analysis.proofs.analyze_conflict.add_literals.Goals as goal
use Rattle.varisat_analysis.proofs.analyze_conflict.add_literals.Goals.{then-level-current, else-level-current+in_ok-push-2}

pub level_to_mark-requires : goal.level_to_mark-requires
level_to_mark-requires g c κs within =
    let (_, (can, falsified)) = c.requires in
    let p = is-at can falsified c.loop-lit-test.true c.lit-item.is c.loop-lit.auto.var_flags in
    (within, (can-still can c.loop-lit.auto.var_flags, p.false_now))

pub loop-lit-preserved-in_default : goal.loop-lit-preserved-in_default
loop-lit-preserved-in_default g c =
    let (_, (can, falsified)) = c.requires in
    let p = is-at can falsified c.loop-lit-test.true c.lit-item.is c.loop-lit.auto.var_flags in
    let s = c.loop-lit.invariant.small in
    record { adds = added-none can.sees.well p c.loop-lit.invariant.adds c.in_default.ensures; small = omega (arith, s) }

pub loop-lit-preserved : goal.loop-lit-preserved
loop-lit-preserved g c =
    let (_, (can, falsified)) = c.requires in
    let sees = can.sees in
    let p = is-at can falsified c.loop-lit-test.true c.lit-item.is c.loop-lit.auto.var_flags in
    let (lv, above, f, inside) = c.in-Some.ensures in
    let current = c.current_level-current.ensures ∙ ap (λ x. length x) sees.decisions_are in
    let marked = marking c.if-level-current.scratch (set c.loop-lit.var_flags c.index.result true) in
    let s = c.loop-lit.invariant.small in
    elim c.if-level-current.branch [
      | then-level-current w ↦ record {
        adds = added-late sees.well p c.loop-lit.invariant.adds c.if-level-current.count c.index.result c.index.ensures.index f marked w.count-is
            (omega (arith, lv, above)) (sym lv ∙ w.if-level-current.true ∙ current) _ c.var.result c.in_ok-push.ensures.items c.var.ensures
            (ap (λ x. marking x (set c.loop-lit.var_flags c.index.result true)) w.scratch-is);
        small = let x = w.count-is in omega (arith, s, x);
      }
      | else-level-current+in_ok-push-2 w ↦ record {
        adds = added-lower sees.well p c.loop-lit.invariant.adds c.if-level-current.count c.index.result c.index.ensures.index f marked w.count-is
            (omega (arith, lv, above)) (λ q. w.if-level-current.false (lv ∙ q ∙ sym current)) _ _ c.var.result
            w.in_ok-push-2.ensures.items c.in_ok-push.ensures.items c.var.ensures
            (ap (λ x. marking x (set c.loop-lit.var_flags c.index.result true)) w.scratch-is);
        small = let x = w.count-is in omega (arith, s, x);
      }
    ]

pub returns : goal.returns
returns g c = grind (arith, common_steps)
