use Rattle.std.proofs.Common.{sym, subst, take}
use Rattle.varisat_prop.proofs.views.ReadElements.{item-∈}
use Rattle.varisat_solver.proofs.calls.ReadPlaces.{take-item}
use Rattle.varisat_solver.proofs.modes.TableMarks.{AreOpened, names-marked, one-named, opened-none, opened-more}
use Rattle.varisat_solver.proofs.accept.mark_joined.Goals as goal

pub loop-lit-init : goal.loop-lit-init
loop-lit-init g c = opened-none c.args.variables.now

pub global_of-global-requires : goal.global_of-global-requires
global_of-global-requires g c =
    let d = c.args.clause.now in
    let names = names-marked d c.args.variables.now c.loop-lit.variables c.requires c.loop-lit.invariant.same in
    one-named d c.loop-lit.variables c.lit-item.result names (item-∈ d c.loop-lit.lit-index c.lit-item.result c.loop-lit-test.true c.lit-item.is)

pub loop-lit-preserved : goal.loop-lit-preserved
loop-lit-preserved g c =
    let t = take-item c.args.clause.now c.loop-lit.lit-index c.lit-item.result c.loop-lit-test.true c.lit-item.is in
    subst (λ ls. AreOpened ls c.args.variables.now c.set_isolated.new.self) (sym t)
    (opened-more (take c.loop-lit.lit-index c.args.clause.now) c.args.variables.now c.loop-lit.variables c.set_isolated.new.self
    c.lit-item.result c.global_of-global.result c.loop-lit.invariant c.global_of-global.ensures.found c.global_of-global.ensures.live
    c.set_isolated.ensures)
