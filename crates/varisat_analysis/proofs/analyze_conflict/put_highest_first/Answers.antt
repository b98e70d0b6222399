use Rattle.std.proofs.Common.{ℕ, ◌<◌, ◌≤◌, length, get_or, ap, ◌∙◌, subst, arith}
use Rattle.varisat_prop.proofs.views.ReadElements.{element, item-∈}
use Rattle.varisat_prop.specs.View.{level_of}
use Rattle.varisat_analysis.proofs.WellFormedViews.{level-read}
use Rattle.varisat_analysis.proofs.AnalysisResult.{fronted-now, level-fronted}
use Rattle.varisat_analysis.proofs.analyze_conflict.put_highest_first.Goals as goal

pub level-requires : goal.level-requires
level-requires g c =
    let (_, (sees, (range, _))) = c.requires in
    let v = ap (λ x. length x) c.deref.ensures.value in
    let b = c.highest_place-highest.ensures.within in
    let f = fronted-now c.args.clause.now.items c.swap.new.self.items c.highest_place-highest.result (omega (arith, v, b)) c.swap.ensures.items in
    let l = f.order.long in
    let i = range c.index.result.now
    (f.order.same.0 c.index.result.now (item-∈ c.swap.new.self.items 0 c.index.result.now (omega (arith, l, v, b)) c.index.ensures)) in
    let n = ap (λ x. length x) sees.nodes_are in
    omega (arith, i, n, c.var.ensures)

pub returns-clause-same : goal.returns-clause-same
returns-clause-same g c =
    let v = ap (λ x. length x) c.deref.ensures.value in
    let b = c.highest_place-highest.ensures.within in
    (fronted-now c.args.clause.now.items c.swap.new.self.items c.highest_place-highest.result (omega (arith, v, b)) c.swap.ensures.items).order.same

pub returns-clause-distinct : goal.returns-clause-distinct
returns-clause-distinct g c =
    let (_, (_, (_, distinct))) = c.requires in
    let v = ap (λ x. length x) c.deref.ensures.value in
    let b = c.highest_place-highest.ensures.within in
    (fronted-now c.args.clause.now.items c.swap.new.self.items c.highest_place-highest.result
    (omega (arith, v, b)) c.swap.ensures.items).order.distinct distinct

pub returns-clause-level : goal.returns-clause-level
returns-clause-level g c =
    let (_, (sees, (_, _))) = c.requires in
    let v = ap (λ x. length x) c.deref.ensures.value in
    let b = c.highest_place-highest.ensures.within in
    let f = fronted-now c.args.clause.now.items c.swap.new.self.items c.highest_place-highest.result (omega (arith, v, b)) c.swap.ensures.items in
    let l = f.order.long in
    let e = element c.swap.new.self.items 0 c.index.result.now (omega (arith, l, v, b)) c.index.ensures in
    let r = level-read g.s c.args.parts.impl_graph.now.nodes.items c.index.result.now c.var.result c.level.result sees.nodes_are c.var.ensures
    c.level.ensures in
    level-fronted g.s c.args.clause.now.items c.swap.new.self.items c.highest_place-highest.result c.level.result f
    (subst (λ x. (k : ℕ) → k < length x → level_of g.s (get_or x k 0) ≤ level_of g.s (get_or x c.highest_place-highest.result 0))
    c.deref.ensures.value c.highest_place-highest.ensures.highest)
    (r ∙ ap (level_of g.s) e) (omega (arith, l, v, b))
