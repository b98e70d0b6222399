use Rattle.std.proofs.Common.{take, set, sym, subst, arith, true}
use Rattle.varisat_prop.proofs.views.ReadElements.{item-∈}
use Rattle.varisat_solver.specs.inside.Detached.{FlagsVariables}
use Rattle.varisat_solver.proofs.calls.ReadPlaces.{take-item}
use Rattle.varisat_solver.proofs.leaving.DetachedAlone.{flags-push}
use Rattle.varisat_solver.proofs.detaching.flag_variables.Goals as goal

pub index_mut-requires : goal.index_mut-requires
index_mut-requires g c =
    let l = c.lit-item.result in
    let h = c.requires l (item-∈ c.args.lits.now c.loop-lit.lit-index l c.loop-lit-test.true c.lit-item.is) in
    let n = c.loop-lit.invariant.count in
    omega (arith, h, n, c.index.ensures.index)

pub loop-lit-preserved : goal.loop-lit-preserved
loop-lit-preserved g c =
    let l = c.lit-item.result in
    let d = take c.loop-lit.lit-index c.args.lits.now in
    let t = take-item c.args.lits.now c.loop-lit.lit-index l c.loop-lit-test.true c.lit-item.is in
    let h = c.requires l (item-∈ c.args.lits.now c.loop-lit.lit-index l c.loop-lit-test.true c.lit-item.is) in
    let n = c.loop-lit.invariant.count in
    subst (λ ls. FlagsVariables c.args.count ls (set c.loop-lit.flags.items c.index.result true)) (sym t)
    (flags-push c.args.count d l c.loop-lit.flags.items c.index.result c.index.ensures.index (omega (arith, h, n, c.index.ensures.index)) c.loop-lit.invariant)
