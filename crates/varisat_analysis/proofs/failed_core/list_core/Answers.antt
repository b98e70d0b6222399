use Rattle.std.proofs.Common.{length, ⊎_elim, refl, sym, ◌∙◌, subst, arith}
use Rattle.varisat_theory.specs.promises.Membership.{◌∈◌}
use Rattle.varisat_theory.specs.promises.Literals.{opposite}
use Rattle.varisat_analysis.proofs.CoreWalk.{true-flag, core-start, core-clear, core-end, pass-true, pass-skip, pass-next, at-start}
use Rattle.varisat_analysis.proofs.failed_core.list_core.Goals as goal

pub flag_causes-requires : goal.flag_causes-requires
flag_causes-requires g c κs within =
    let (_, (sees, (flags, (false_now, _)))) = c.requires in
    (within, (sees, (flags, λ m i. ⊎_elim (λ e. subst (λ x. opposite x ∈ g.s.trail) (sym e) false_now) (λ z. absurd z) i)))

pub loop-place-init : goal.loop-place-init
loop-place-init g c =
    let (_, (sees, (_, (false_now, clear)))) = c.requires in
    core-start g.s sees.well c.args.failed false_now c.clear.new.self.items c.push.new.self.items c.trail-lits.result.now c.args.flags.now
    c.flag_causes.new.flags (length c.trail-lits.result.now) c.clear.ensures.items c.in_ok-push.ensures.items
    (c.trail-lits.ensures ∙ sees.trail_is) refl clear c.flag_causes.ensures

pub bounds-flags-code : goal.bounds-flags-code
bounds-flags-code g c =
    let (_, (sees, (flags, (false_now, _)))) = c.requires in
    let h = pass-true sees.well false_now c.loop-place.invariant c.loop-place-test.true (c.trail-lits.ensures ∙ sees.trail_is) c.index-lits-place.is in
    let b = true-flag g.s sees.well c.loop-place.flags c.index-lits-place.result (c.loop-place.auto.flags ∙ c.flag_causes.auto.flags ∙ flags) h in
    omega (arith, b, c.code.ensures.code)

pub loop-place-preserved-then-not-flags-code : goal.loop-place-preserved-then-not-flags-code
loop-place-preserved-then-not-flags-code g c =
    let (_, (sees, (_, (false_now, _)))) = c.requires in
    pass-skip sees.well false_now c.loop-place.invariant c.loop-place-test.true
    (c.trail-lits.ensures ∙ sees.trail_is) c.index-lits-place.is c.code.result c.code.ensures.code c.if-not-flags-code.true

pub pass_flagged-requires : goal.pass_flagged-requires
pass_flagged-requires g c κs within =
    let (_, (sees, (flags, (false_now, _)))) = c.requires in
    let h = pass-true sees.well false_now c.loop-place.invariant c.loop-place-test.true (c.trail-lits.ensures ∙ sees.trail_is) c.index-lits-place.is in
    (within, (sees, (c.loop-place.auto.flags ∙ c.flag_causes.auto.flags ∙ flags, h)))

pub loop-place-preserved : goal.loop-place-preserved
loop-place-preserved g c =
    let (_, (sees, (_, (false_now, _)))) = c.requires in
    let o = c.in-Ok.ensures {u = tt} in
    pass-next sees.well false_now c.loop-place.invariant c.loop-place-test.true
    (c.trail-lits.ensures ∙ sees.trail_is) c.index-lits-place.is c.code.result c.code.ensures.code c.if-not-flags-code.false
    c.pass_flagged.new.core.items c.pass_flagged.new.flags o.listed o.flagged

pub returns-clause-clear : goal.returns-clause-clear
returns-clause-clear g c =
    let (_, (sees, (_, (false_now, _)))) = c.requires in
    core-clear g.s sees.well c.args.failed false_now c.loop-place.core.items c.loop-place.flags
    (at-start (omega (arith, c.loop-place-test.false)) c.loop-place.invariant)

pub returns-clause-core : goal.returns-clause-core
returns-clause-core g c =
    let (_, (sees, (_, (false_now, _)))) = c.requires in
    core-end g.s sees.well c.args.failed false_now c.loop-place.core.items c.loop-place.flags
    (at-start (omega (arith, c.loop-place-test.false)) c.loop-place.invariant)
