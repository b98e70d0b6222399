use Rattle.std.proofs.lemmas.Grind.{common_steps}
use Rattle.std.proofs.Common.{◌≡◌, [], ◌∷◌, ◌++◌, length, ap, ◌∙◌, subst, arith}
use Rattle.varisat_clause.specs.Collected.{live_clauses}
use Rattle.varisat_analysis.specs.Marks.{marking}
use Rattle.varisat_analysis.specs.Redundancy.{Explores}
use Rattle.varisat_analysis.proofs.WellFormedViews.{reason-read, read-inside}
use Rattle.varisat_analysis.proofs.AnalysisMarks.{can-still}
use Rattle.varisat_analysis.proofs.AnalysisSearch.{search-begin, search-inside, search-names, search-falsified, search-next, search-listed, is-since, since-cleared, search-found, empty-list}
use Rattle.varisat_analysis.proofs.analyze_conflict.is_redundant.Goals as goal

pub reason-requires : goal.reason-requires
reason-requires g c =
    let (_, (can, falsified)) = c.requires in
    let sees = can.sees in
    read-inside g.s sees.well c.args.parts.impl_graph.now.nodes.items c.args.lit c.var.result sees.nodes_are c.var.ensures falsified

pub search-init : goal.search-init
search-init g c =
    let (_, (can, falsified)) = c.requires in
    let sees = can.sees in
    search-begin (marking c.args.scratch.now c.args.var_flags.now) c.reason.result.now c.push.new.self.items falsified
    (reason-read g.s c.args.parts.impl_graph.now.nodes.items c.args.lit c.var.result c.reason.result.now sees.nodes_are c.var.ensures c.reason.ensures)
    (λ q. let b = c.if-is_unit.ensures.1 q in absurd cc)
    (c.in_ok-push.ensures.items ∙ ap (λ x. x ++ c.not.result ∷ []) c.clear.ensures.items ∙ ap (λ x. x ∷ []) c.not.ensures)

pub reason-requires-in-Some : goal.reason-requires-in-Some
reason-requires-in-Some g c =
    let (_, (can, _)) = c.requires in
    let sees = can.sees in
    search-inside sees.well c.search.invariant c.in-Some.implied c.pop.new.self.items c.in-Some.ensures.items
    c.args.parts.impl_graph.now.nodes.items c.var-in-Some.result sees.nodes_are c.var-in-Some.ensures

pub lits-lits-requires-clause-sound : goal.lits-lits-requires-clause-sound
lits-lits-requires-clause-sound g c =
    let (_, (can, _)) = c.requires in
    can.sees.sound

pub lits-lits-requires-clause-clause : goal.lits-lits-requires-clause-clause
lits-lits-requires-clause-clause g c =
    let (_, (can, _)) = c.requires in
    let sees = can.sees in
    let p = reason-read g.s c.args.parts.impl_graph.now.nodes.items c.in-Some.implied c.var-in-Some.result c.reason-in-Some.result.now
    sees.nodes_are c.var-in-Some.ensures c.reason-in-Some.ensures in
    search-names sees.well c.search.invariant c.in-Some.implied c.pop.new.self.items c.in-Some.ensures.items
    (live_clauses c.args.parts.clause_alloc.now) c.reason-in-Some.result.now sees.clauses_are p

pub mark_causes-requires : goal.mark_causes-requires
mark_causes-requires g c κs within =
    let (_, (can, _)) = c.requires in
    let sees = can.sees in
    let p = reason-read g.s c.args.parts.impl_graph.now.nodes.items c.in-Some.implied c.var-in-Some.result c.reason-in-Some.result.now
    sees.nodes_are c.var-in-Some.ensures c.reason-in-Some.ensures in (
      within,
      (
        can-still can c.search.auto.var_flags,
        search-falsified sees.well c.search.invariant c.in-Some.implied c.pop.new.self.items
            c.in-Some.ensures.items (live_clauses c.args.parts.clause_alloc.now) c.reason-in-Some.result.now c.lits-lits.result.now sees.clauses_are p
            c.lits-lits.ensures,
      ),
    )

pub clear_flags-requires : goal.clear_flags-requires
clear_flags-requires g c v i =
    let (_, (can, _)) = c.requires in
    let list = search-listed can.sees.well c.search.invariant c.in-Some.implied c.pop.new.self.items c.in-Some.ensures.items c.search.auto.var_flags
    (c.in_ok-mark_causes.ensures {u = tt}) in
    let since = is-since list (c.len-top.ensures ∙ c.args.scratch.now.to_clean.ok.0) c.deref.ensures.value in
    let a = since.inside v i in
    let f1 = c.search.auto.var_flags in
    let f2 = c.mark_causes.auto.var_flags in
    omega (arith, a, f1, f2)

pub returns-then-not-branch : goal.returns-then-not-branch
returns-then-not-branch g c =
    let (_, (can, _)) = c.requires in
    let list = search-listed can.sees.well c.search.invariant c.in-Some.implied c.pop.new.self.items c.in-Some.ensures.items c.search.auto.var_flags
    (c.in_ok-mark_causes.ensures {u = tt}) in
    let since = is-since list (c.len-top.ensures ∙ c.args.scratch.now.to_clean.ok.0) c.deref.ensures.value in
    since-cleared g.s c.args.lit c.clear_flags.new.var_flags c.truncate.new.self.items since c.truncate.ensures.items c.clear_flags.ensures.gone
    c.clear_flags.ensures.rest

pub search-preserved : goal.search-preserved
search-preserved g c =
    let (_, (can, _)) = c.requires in
    let sees = can.sees in
    let p = reason-read g.s c.args.parts.impl_graph.now.nodes.items c.in-Some.implied c.var-in-Some.result c.reason-in-Some.result.now
    sees.nodes_are c.var-in-Some.ensures c.reason-in-Some.ensures in
    search-next sees.well c.search.invariant c.in-Some.implied c.pop.new.self.items c.in-Some.ensures.items
    (live_clauses c.args.parts.clause_alloc.now) c.reason-in-Some.result.now c.lits-lits.result.now
    (marking c.mark_causes.new.scratch c.mark_causes.new.var_flags) sees.clauses_are p c.lits-lits.ensures c.search.auto.var_flags
    (subst (λ b. Explores g.s c.lits-lits.result.now b (marking (record c.search.scratch { stack = c.pop.new.self }) c.search.var_flags)
    (marking c.mark_causes.new.scratch c.mark_causes.new.var_flags)) c.if-not-branch.false (c.in_ok-mark_causes.ensures {u = tt}))

pub returns : goal.returns
returns g c =
    let z : length c.search.scratch.stack.items ≡ 0 = omega (arith, c.in_default.ensures.cases.0, c.search.scratch.stack.ok.0) in
    search-found c.pop.new.self.items (empty-list c.search.scratch.stack.items z) c.search.invariant

pub offset_bounds-deref-top : goal.offset_bounds-deref-top
offset_bounds-deref-top g c = grind (arith, common_steps)

pub slice_bounds-clear_flags-count : goal.slice_bounds-clear_flags-count
slice_bounds-clear_flags-count g c = grind (arith, common_steps)

pub slice_bounds-clear_flags-start : goal.slice_bounds-clear_flags-start
slice_bounds-clear_flags-start g c = grind (arith, common_steps)
