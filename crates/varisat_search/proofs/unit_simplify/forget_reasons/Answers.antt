use Rattle.std.proofs.Common.{◌+◌, List, [], ◌∷◌, ◌++◌, take, take_all, get_or, set, sym, ap, ◌∙◌, subst, arith}
use Rattle.varisat_theory.specs.promises.Literals.{Literal, variable_of}
use Rattle.varisat_prop.specs.View.{no_node}
use Rattle.varisat_prop.proofs.views.ReadElements.{element, item-∈}
use Rattle.varisat_analysis.proofs.BumpedVariables.{take-snoc}
use Rattle.varisat_search.proofs.simplifying.ProvedUnits.{as_unit, HasUnitsTo, units-none, units-more}
use Rattle.varisat_search.proofs.unit_simplify.forget_reasons.Goals as goal

pub loop-lit-init : goal.loop-lit-init
loop-lit-init g c = units-none c.args.impl_graph.now.nodes.items

pub update_reason-requires : goal.update_reason-requires
update_reason-requires g c =
    let i = c.requires c.lit-item.result (item-∈ c.args.lits.now c.loop-lit.lit-index c.lit-item.result c.loop-lit-test.true c.lit-item.is) in
    let n = c.loop-lit.invariant.given.count in
    omega (arith, i, n, c.var.ensures)

pub loop-lit-preserved : goal.loop-lit-preserved
loop-lit-preserved g c =
    let lits = c.args.lits.now in
    let k = c.loop-lit.lit-index in
    let l = c.lit-item.result in
    let old = c.args.impl_graph.now.nodes.items in
    let ns = c.loop-lit.impl_graph.nodes.items in
    let e = element lits k l c.loop-lit-test.true c.lit-item.is in
    let i = c.requires l (item-∈ lits k l c.loop-lit-test.true c.lit-item.is) in
    let n = c.loop-lit.invariant.given.count in
    subst (HasUnitsTo (take (k + 1) lits) old) (sym c.update_reason.ensures)
    (subst (λ v. HasUnitsTo (take (k + 1) lits) old (set ns v (as_unit (get_or ns v no_node)))) (sym c.var.ensures)
    (subst (λ (ls : List Literal). HasUnitsTo ls old (set ns (variable_of l) (as_unit (get_or ns (variable_of l) no_node))))
    (sym (take-snoc k lits c.loop-lit-test.true ∙ ap (λ m. take k lits ++ m ∷ []) (sym e)))
    (units-more (take k lits) l old ns (omega (arith, i, n)) c.loop-lit.invariant)))

pub returns : goal.returns
returns g c = (subst (λ ls. HasUnitsTo ls c.args.impl_graph.now.nodes.items c.loop-lit.impl_graph.nodes.items)
    (take_all c.loop-lit.lit-index c.args.lits.now c.loop-lit-test.false) c.loop-lit.invariant).given
