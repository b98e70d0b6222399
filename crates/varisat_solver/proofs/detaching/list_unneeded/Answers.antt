use Rattle.std.proofs.Common.{◌≡◌, ◌+◌, true, false, sym, ap, ◌∙◌, subst, arith}
use Rattle.varisat_theory.specs.promises.Literals.{variable_of}
use Rattle.varisat_names.specs.promises.VarMap.{at}
use Rattle.varisat_solver.specs.inside.Detached.{leads_to_hidden}
use Rattle.varisat_solver.proofs.leaving.DetachedLists.{ListsBelow, lists-none, lists-pass, lists-one, lists-all}
use Rattle.varisat_solver.proofs.detaching.list_unneeded.Goals as goal

pub loop-index-init : goal.loop-index-init
loop-index-init g c = subst (ListsBelow 0 c.args.variables.now c.args.mentioned.now) (sym c.clear.ensures.items)
    (lists-none c.args.variables.now c.args.mentioned.now)

pub returns : goal.returns
returns g c = lists-all c.args.variables.now c.args.mentioned.now c.loop-index.unneeded.items c.loop-index.index
    (omega (arith, c.loop-index-test.false, c.loop-index.auto.index-end)) c.loop-index.invariant

pub loop-index-preserved-then-is_mentioned : goal.loop-index-preserved-then-is_mentioned
loop-index-preserved-then-is_mentioned g c = lists-pass c.loop-index.index c.args.variables.now c.args.mentioned.now c.loop-index.unneeded.items
    c.loop-index.invariant (λ p q. let z : false ≡ true = sym p ∙ c.if-is_mentioned.true in cc)

pub loop-index-preserved-then-not-is_hidden : goal.loop-index-preserved-then-not-is_hidden
loop-index-preserved-then-not-is_hidden g c =
    let m = c.args.variables.now in
    lists-pass c.loop-index.index m c.args.mentioned.now c.loop-index.unneeded.items c.loop-index.invariant (λ p q.
    let z : true ≡ false = sym q ∙ ap (λ v. leads_to_hidden m (at m.solvers.backward v)) (sym c.from_index-solver.ensures) ∙ sym c.is_hidden.ensures
    ∙ c.if-not-is_hidden.true in
    cc)

pub loop-index-preserved : goal.loop-index-preserved
loop-index-preserved g c =
    let m = c.args.variables.now in
    let l = c.positive.result in
    let a = c.positive.ensures in
    let b = c.from_index-solver.ensures in
    let here : variable_of l ≡ c.loop-index.index = omega (arith, a, b) in
    subst (ListsBelow (c.loop-index.index + 1) m c.args.mentioned.now) (sym c.in_ok-push.ensures.items)
    (lists-one c.loop-index.index m c.args.mentioned.now c.loop-index.unneeded.items l c.loop-index.invariant here c.if-is_mentioned.false
    (ap (λ v. leads_to_hidden m (at m.solvers.backward v)) (sym c.from_index-solver.ensures) ∙ sym c.is_hidden.ensures ∙ c.if-not-is_hidden.false))
