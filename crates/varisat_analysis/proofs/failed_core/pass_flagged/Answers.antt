use Rattle.std.proofs.Common.{◌≡◌, ◌++◌, false, length, length-set, set, sym, ap, ◌∙◌, subst, arith}
use Rattle.varisat_theory.specs.promises.Propagation.{IsFalse}
use Rattle.varisat_clause.specs.Collected.{live_clauses}
use Rattle.varisat_prop.specs.Changes.{NamesClause, causes_of}
use Rattle.varisat_prop.specs.View.{node_of}
use Rattle.varisat_analysis.specs.FailedCores.{FlagsCauses, decided_by}
use Rattle.varisat_analysis.proofs.WellFormedViews.{reason-read, inside-true, names-clause, causes-false}
use Rattle.varisat_analysis.proofs.CoreWalk.{true-flag, causes-read}
use Rattle.varisat_analysis.proofs.failed_core.pass_flagged.Goals as goal

pub bounds-flags-code : goal.bounds-flags-code
bounds-flags-code g c =
    let (_, (sees, (flags, stands))) = c.requires in
    let b = true-flag g.s sees.well c.args.flags.now c.args.lit flags stands in
    omega (arith, b, c.code.ensures.code)

pub reason-requires : goal.reason-requires
reason-requires g c =
    let (_, (sees, (_, stands))) = c.requires in
    let i = inside-true g.s sees.well c.args.lit stands in
    let n = ap (λ x. length x) sees.nodes_are in
    omega (arith, i, n, c.var.ensures)

pub lits-requires-clause-sound : goal.lits-requires-clause-sound
lits-requires-clause-sound g c =
    let (_, (sees, (_, _))) = c.requires in
    sees.sound

pub lits-requires-clause-clause : goal.lits-requires-clause-clause
lits-requires-clause-clause g c =
    let (_, (sees, (_, stands))) = c.requires in
    let p = reason-read g.s c.args.parts.impl_graph.now.nodes.items c.args.lit c.var.result c.reason.result.now sees.nodes_are c.var.ensures c.reason.ensures in
    subst (λ P. NamesClause P c.reason.result.now) (sym sees.clauses_are)
    (subst (NamesClause g.s.clauses) (sym p) (names-clause g.s sees.well c.args.lit stands))

pub flag_causes-requires : goal.flag_causes-requires
flag_causes-requires g c κs within =
    let (_, (sees, (flags, stands))) = c.requires in
    let e = causes-read g.s (live_clauses c.args.parts.clause_alloc.now) c.args.parts.impl_graph.now.nodes.items c.args.lit c.var.result
    c.reason.result.now c.lits.result.now sees.clauses_are sees.nodes_are c.var.ensures c.reason.ensures c.lits.ensures in (
      within,
      (
        sees,
        (
          length-set c.args.flags.now c.code.result false
              ∙ flags,
          subst (IsFalse g.s.trail) (sym e) (causes-false g.s sees.well c.args.lit stands),
        ),
      ),
    )

pub returns-clause-listed : goal.returns-clause-listed
returns-clause-listed g c =
    let (_, (sees, (_, _))) = c.requires in
    let p = reason-read g.s c.args.parts.impl_graph.now.nodes.items c.args.lit c.var.result c.reason.result.now sees.nodes_are c.var.ensures c.reason.ensures in
    subst (λ r. c.list_decided.new.core.items ≡ c.args.core.now.items ++ decided_by c.args.lit r) p c.in_ok-list_decided.ensures

pub returns-clause-flagged : goal.returns-clause-flagged
returns-clause-flagged g c =
    let (_, (sees, (_, _))) = c.requires in
    let e = causes-read g.s (live_clauses c.args.parts.clause_alloc.now) c.args.parts.impl_graph.now.nodes.items c.args.lit c.var.result
    c.reason.result.now c.lits.result.now sees.clauses_are sees.nodes_are c.var.ensures c.reason.ensures c.lits.ensures in
    subst (λ v. FlagsCauses g.s (causes_of g.s.clauses (node_of g.s c.args.lit).reason) (set c.args.flags.now v false) c.flag_causes.new.flags)
    c.code.ensures.code
    (subst (λ x. FlagsCauses g.s x (set c.args.flags.now c.code.result false) c.flag_causes.new.flags) e c.flag_causes.ensures)
