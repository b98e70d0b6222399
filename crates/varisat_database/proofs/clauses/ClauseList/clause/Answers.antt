use Rattle.std.proofs.Common.{arith, List, length, take, drop, ap, ◌∙◌, ◌-◌}
use Rattle.std.proofs.lemmas.Grind.{common_steps}
use Rattle.varisat_theory.specs.promises.Literals.{Literal}
use Rattle.varisat_database.proofs.CutLemmas.{read_bounds, view_below}
use Rattle.varisat_database.proofs.clauses.ClauseList.clause.Goals as goal

pub start_of-start-requires : goal.start_of-start-requires
start_of-start-requires g c =
    view_below c.self.inside.ends.items c.deref.result.now c.self.inside.literals.items c.args.self.now c.args.index c.self.view_is c.requires c.deref.ensures.value

pub index-end-requires : goal.index-end-requires
index-end-requires g c =
    let h = view_below c.self.inside.ends.items c.deref.result.now c.self.inside.literals.items c.args.self.now c.args.index c.self.view_is c.requires c.deref.ensures.value in
    let e = ap length c.deref.ensures.value in
    grind (arith, common_steps, h, e)

pub offset_bounds-deref-start : goal.offset_bounds-deref-start
offset_bounds-deref-start g c =
    let b = read_bounds c.self.inside.ends.items c.deref.result.now c.self.inside.literals.items c.args.self.now c.args.index c.start_of-start.result
    c.index-end.result.now c.self.view_is c.self.invariant c.requires c.deref.ensures.value c.start_of-start.ensures c.index-end.ensures in
    let p = b.0 in
    let q = b.1 in
    let e = ap length c.deref-2.ensures.value in
    let t = c.deref-2.type_inv.1 in
    grind (arith, common_steps, p, q, e, t)

pub slice_bounds-result-count : goal.slice_bounds-result-count
slice_bounds-result-count g c =
    (read_bounds c.self.inside.ends.items c.deref.result.now c.self.inside.literals.items c.args.self.now c.args.index c.start_of-start.result
    c.index-end.result.now c.self.view_is c.self.invariant c.requires c.deref.ensures.value c.start_of-start.ensures c.index-end.ensures).0

pub slice_bounds-result-start : goal.slice_bounds-result-start
slice_bounds-result-start g c =
    (read_bounds c.self.inside.ends.items c.deref.result.now c.self.inside.literals.items c.args.self.now c.args.index c.start_of-start.result
    c.index-end.result.now c.self.view_is c.self.invariant c.requires c.deref.ensures.value c.start_of-start.ensures c.index-end.ensures).0

pub slice_bounds-result-end : goal.slice_bounds-result-end
slice_bounds-result-end g c =
    let b = (read_bounds c.self.inside.ends.items c.deref.result.now c.self.inside.literals.items c.args.self.now c.args.index c.start_of-start.result
    c.index-end.result.now c.self.view_is c.self.invariant c.requires c.deref.ensures.value c.start_of-start.ensures c.index-end.ensures).1 in
    let e = ap length c.deref-2.ensures.value in
    omega (arith, b, e)

pub returns : goal.returns
returns g c =
    let b = (read_bounds c.self.inside.ends.items c.deref.result.now c.self.inside.literals.items c.args.self.now c.args.index c.start_of-start.result
    c.index-end.result.now c.self.view_is c.self.invariant c.requires c.deref.ensures.value c.start_of-start.ensures c.index-end.ensures).2 in
    ap (λ (ls : List Literal). take (c.index-end.result.now - c.start_of-start.result) (drop c.start_of-start.result ls)) c.deref-2.ensures.value ∙ b
