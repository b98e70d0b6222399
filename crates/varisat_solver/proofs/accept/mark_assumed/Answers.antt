use Rattle.std.proofs.Common.{sym, subst, take}
use Rattle.varisat_prop.proofs.views.ReadElements.{item-∈}
use Rattle.varisat_solver.specs.inside.Accepting.{AreMarked}
use Rattle.varisat_solver.proofs.calls.ReadPlaces.{take-item}
use Rattle.varisat_solver.proofs.modes.TableMarks.{names-marked, one-named, marked-same, marked-none, marked-more}
use Rattle.varisat_solver.proofs.accept.mark_assumed.Goals as goal

pub loop-lit-init : goal.loop-lit-init
loop-lit-init g c = marked-none c.args.variables.now c.args.assumed

pub global_of-global-requires : goal.global_of-global-requires
global_of-global-requires g c =
    let d = c.args.list.now in
    let same = marked-same (take c.loop-lit.lit-index d) c.args.assumed c.args.variables.now c.loop-lit.variables c.loop-lit.invariant in
    one-named d c.loop-lit.variables c.lit-item.result (names-marked d c.args.variables.now c.loop-lit.variables c.requires same)
    (item-∈ d c.loop-lit.lit-index c.lit-item.result c.loop-lit-test.true c.lit-item.is)

pub loop-lit-preserved : goal.loop-lit-preserved
loop-lit-preserved g c =
    let t = take-item c.args.list.now c.loop-lit.lit-index c.lit-item.result c.loop-lit-test.true c.lit-item.is in
    subst (λ ls. AreMarked ls c.args.assumed c.args.variables.now c.set_assumed.new.self) (sym t)
    (marked-more (take c.loop-lit.lit-index c.args.list.now) c.args.assumed c.args.variables.now c.loop-lit.variables c.set_assumed.new.self
    c.lit-item.result c.global_of-global.result c.loop-lit.invariant c.global_of-global.ensures.found c.global_of-global.ensures.live
    c.set_assumed.ensures)
