use Rattle.std.proofs.Common.{◌<◌, ◌+◌, length, sym, ap, ◌∙◌, subst, arith}
use Rattle.varisat_theory.specs.promises.Literals.{variable_of}
use Rattle.varisat_prop.proofs.views.ReadElements.{element, item-∈}
use Rattle.varisat_search.proofs.variables.ForgottenViews.{NumberedTo, numbered-none, numbered-more, numbered-all}
use Rattle.varisat_search.proofs.forgetting.renumber.Goals as goal

pub loop-place-init : goal.loop-place-init
loop-place-init g c = numbered-none c.args.lits.now c.args.impl_graph.now.nodes.items

pub update_depth-requires : goal.update_depth-requires
update_depth-requires g c =
    let lits = c.args.lits.now in
    let k = c.loop-place.place in
    let inside : k < length lits = omega (arith, c.loop-place-test.true) in
    let i = c.requires.known c.index-lits-place.result (item-∈ lits k c.index-lits-place.result inside c.index-lits-place.is) in
    let n = c.loop-place.invariant.count in
    record { known = omega (arith, i, n, c.var.ensures); small = omega (arith, inside, c.requires.short) }

pub loop-place-preserved : goal.loop-place-preserved
loop-place-preserved g c =
    let lits = c.args.lits.now in
    let k = c.loop-place.place in
    let l = c.index-lits-place.result in
    let old = c.args.impl_graph.now.nodes.items in
    let ns = c.loop-place.impl_graph.nodes.items in
    let inside : k < length lits = omega (arith, c.loop-place-test.true) in
    let e = element lits k l inside c.index-lits-place.is in
    let i = c.requires.known l (item-∈ lits k l inside c.index-lits-place.is) in
    subst (NumberedTo lits (k + 1) old) (sym c.update_depth.ensures)
    (numbered-more lits k c.var.result old ns inside (c.var.ensures ∙ ap variable_of e)
    (omega (arith, i, c.var.ensures)) c.requires.distinct c.loop-place.invariant)

pub returns : goal.returns
returns g c = numbered-all c.args.lits.now c.loop-place.place c.args.impl_graph.now.nodes.items c.loop-place.impl_graph.nodes.items
    (omega (arith, c.loop-place-test.false)) c.loop-place.invariant
