use Rattle.std.proofs.Common.{◌≡◌, ◌+◌, ◌<◌, length, sym, ◌∙◌, subst, arith}
use Rattle.varisat_prop.proofs.views.ReadElements.{element}
use Rattle.varisat_analysis.specs.Marks.{marking}
use Rattle.varisat_analysis.specs.Redundancy.{FindsRedundancy}
use Rattle.varisat_analysis.proofs.AnalysisMarks.{can-still}
use Rattle.varisat_analysis.proofs.AnalysisMinimize.{Minimizing, minimizing-start, minimizing-keep, minimizing-drop, minimizing-end, minimizing-false}
use Rattle.varisat_analysis.proofs.analyze_conflict.minimize.Goals as goal
use Rattle.varisat_analysis.proofs.analyze_conflict.minimize.Goals.{then-not-branch, else-not-branch}

pub loop-place-init : goal.loop-place-init
loop-place-init g c =
    let (_, (can, marks)) = c.requires in
    minimizing-start can.sees.well can.flags_are marks

pub is_redundant-requires : goal.is_redundant-requires
is_redundant-requires g c κs within =
    let (_, (can, _)) = c.requires in
    let ln : c.len-place-end.result ≡ length c.args.scratch.now.clause.items = c.len-place-end.ensures ∙ c.args.scratch.now.clause.ok.0 in
    let t0 = c.loop-place-test.true in
    let i : c.loop-place.place < length c.args.scratch.now.clause.items = omega (arith, ln, t0) in
    let lo = c.loop-place.invariant.long in
    let e = element c.loop-place.scratch.clause.items c.loop-place.place c.index-lit.result.now (omega (arith, i, lo)) c.index-lit.ensures in
    (within, (can-still can c.loop-place.auto.var_flags, minimizing-false c.index-lit.result.now i e c.loop-place.invariant))

pub loop-place-preserved : goal.loop-place-preserved
loop-place-preserved g c =
    let ln : c.len-place-end.result ≡ length c.args.scratch.now.clause.items = c.len-place-end.ensures ∙ c.args.scratch.now.clause.ok.0 in
    let t0 = c.loop-place-test.true in
    let i : c.loop-place.place < length c.args.scratch.now.clause.items = omega (arith, ln, t0) in
    let lo = c.loop-place.invariant.long in
    let e = element c.loop-place.scratch.clause.items c.loop-place.place c.index-lit.result.now (omega (arith, i, lo)) c.index-lit.ensures in
    elim c.if-not-branch.branch [
      | then-not-branch w ↦
          let f = subst (λ b. FindsRedundancy g.s c.index-lit.result.now b (marking c.loop-place.scratch c.loop-place.var_flags)
          (marking c.is_redundant.new.scratch c.is_redundant.new.var_flags)) w.if-not-branch.true (c.in_ok-is_redundant.ensures {u = tt}) in
          subst (λ k. Minimizing g.s (marking c.args.scratch.now c.args.var_flags.now)
          (marking c.if-not-branch.scratch c.is_redundant.new.var_flags) k (c.loop-place.place + 1)) (sym w.kept-is)
          (subst (λ x. Minimizing g.s (marking c.args.scratch.now c.args.var_flags.now) (marking x c.is_redundant.new.var_flags)
          (c.loop-place.kept + 1) (c.loop-place.place + 1)) (sym w.scratch-is)
          (minimizing-keep c.index-lit.result.now c.is_redundant.auto.var_flags i e f c.loop-place.invariant))
      | else-not-branch w ↦
          let f = subst (λ b. FindsRedundancy g.s c.index-lit.result.now b (marking c.loop-place.scratch c.loop-place.var_flags)
          (marking c.is_redundant.new.scratch c.is_redundant.new.var_flags)) w.if-not-branch.false (c.in_ok-is_redundant.ensures {u = tt}) in
          subst (λ k. Minimizing g.s (marking c.args.scratch.now c.args.var_flags.now)
          (marking c.if-not-branch.scratch c.is_redundant.new.var_flags) k (c.loop-place.place + 1)) (sym w.kept-is)
          (subst (λ x. Minimizing g.s (marking c.args.scratch.now c.args.var_flags.now) (marking x c.is_redundant.new.var_flags) c.loop-place.kept
          (c.loop-place.place + 1)) (sym w.scratch-is)
          (minimizing-drop c.index-lit.result.now c.is_redundant.auto.var_flags i e f c.loop-place.invariant))
    ]

pub returns : goal.returns
returns g c =
    let (_, (can, _)) = c.requires in
    let ln : c.len-place-end.result ≡ length c.args.scratch.now.clause.items = c.len-place-end.ensures ∙ c.args.scratch.now.clause.ok.0 in
    let t0 = c.loop-place-test.false in
    minimizing-end c.truncate.new.self.items can.sees.well (omega (arith, ln, t0)) c.truncate.ensures.items c.loop-place.invariant
