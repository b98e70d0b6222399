use Rattle.std.proofs.Common.{length, sym, ap, ◌∙◌, subst, arith}
use Rattle.varisat_theory.specs.promises.Propagation.{IsFalse}
use Rattle.varisat_prop.specs.Changes.{NamesClause, causes_of}
use Rattle.varisat_analysis.specs.Marks.{marking}
use Rattle.varisat_analysis.proofs.WellFormedViews.{reason-read, inside-true, names-clause, causes-false}
use Rattle.varisat_analysis.proofs.AnalysisWalk.{adds-reason}
use Rattle.varisat_analysis.proofs.analyze_conflict.add_reason.Goals as goal

pub reason-requires : goal.reason-requires
reason-requires g c =
    let (_, (can, stands)) = c.requires in
    let sees = can.sees in
    let i = inside-true g.s sees.well c.args.lit stands in
    let n = ap (λ x. length x) sees.nodes_are in
    omega (arith, i, n, c.var.ensures)

pub lits-requires-clause-sound : goal.lits-requires-clause-sound
lits-requires-clause-sound g c =
    let (_, (can, _)) = c.requires in
    can.sees.sound

pub lits-requires-clause-clause : goal.lits-requires-clause-clause
lits-requires-clause-clause g c =
    let (_, (can, stands)) = c.requires in
    let sees = can.sees in
    let p = reason-read g.s c.args.parts.impl_graph.now.nodes.items c.args.lit c.var.result c.reason.result.now sees.nodes_are c.var.ensures c.reason.ensures in
    subst (λ P. NamesClause P c.reason.result.now) (sym sees.clauses_are)
    (subst (NamesClause g.s.clauses) (sym p) (names-clause g.s sees.well c.args.lit stands))

pub add_literals-requires : goal.add_literals-requires
add_literals-requires g c κs within =
    let (_, (can, stands)) = c.requires in
    let sees = can.sees in
    let p = reason-read g.s c.args.parts.impl_graph.now.nodes.items c.args.lit c.var.result c.reason.result.now sees.nodes_are c.var.ensures c.reason.ensures in
    let e = c.lits.ensures ∙ ap (λ P. causes_of P c.reason.result.now) sees.clauses_are ∙ ap (λ r. causes_of g.s.clauses r) p in
    (within, (can, subst (IsFalse g.s.trail) (sym e) (causes-false g.s sees.well c.args.lit stands)))

pub returns : goal.returns
returns g c =
    let (_, (can, _)) = c.requires in
    let sees = can.sees in
    let p = reason-read g.s c.args.parts.impl_graph.now.nodes.items c.args.lit c.var.result c.reason.result.now sees.nodes_are c.var.ensures c.reason.ensures in
    let begun = ap (λ x. record (marking c.args.scratch.now c.args.var_flags.now) { involved = x }) c.in_ok-list_reason.ensures in
    adds-reason c.args.lit (marking c.args.scratch.now c.args.var_flags.now) c.reason.result.now p
    (c.lits.ensures ∙ ap (λ P. causes_of P c.reason.result.now) sees.clauses_are) begun (c.in_ok-count.ensures {u = tt})
