use Rattle.std.proofs.Common.{◌+◌, set, false, sym, subst, arith}
use Rattle.varisat_prop.proofs.views.ReadElements.{element, item-∈}
use Rattle.varisat_analysis.proofs.CopiedLiterals.{Cleared, cleared-start, cleared-next, cleared-end, flag-inside}
use Rattle.varisat_analysis.proofs.clause_literals.clear_flagged.Goals as goal

pub bounds-flags-code : goal.bounds-flags-code
bounds-flags-code c =
    let l = c.lit-item.result in
    let i = flag-inside c.args.flags.now l ((c.requires l).1 (item-∈ c.args.lits.now c.loop-lit.lit-index l c.loop-lit-test.true c.lit-item.is)) in
    let n = c.loop-lit.auto.flags in
    omega (arith, i, n, c.code.ensures.code)

pub loop-lit-preserved : goal.loop-lit-preserved
loop-lit-preserved c =
    let l = c.lit-item.result in
    let lits = c.args.lits.now in
    let k = c.loop-lit.lit-index in
    let i = flag-inside c.args.flags.now l ((c.requires l).1 (item-∈ lits k l c.loop-lit-test.true c.lit-item.is)) in
    let n = c.loop-lit.auto.flags in
    subst (λ v. Cleared lits (k + 1) (set c.loop-lit.flags v false)) (sym c.code.ensures.code)
    (cleared-next lits k c.loop-lit.flags l (omega (arith, i, n)) (element lits k l c.loop-lit-test.true c.lit-item.is) c.loop-lit.invariant)

pub loop-lit-init : goal.loop-lit-init
loop-lit-init c = cleared-start c.args.lits.now c.args.flags.now c.requires

pub returns : goal.returns
returns c = cleared-end c.args.lits.now c.loop-lit.lit-index c.loop-lit.flags (omega (arith, c.loop-lit-test.false)) c.loop-lit.invariant
