use Rattle.std.proofs.Common.{◌≡◌, true, inl, inr, get_or, false, sym, ◌∙◌, subst, arith}
use Rattle.varisat_analysis.proofs.WellFormedViews.{read-inside, level-read}
use Rattle.varisat_analysis.proofs.AnalysisMarks.{has-flag}
use Rattle.varisat_analysis.proofs.analyze_conflict.level_to_mark.Goals as goal

pub level-level-requires : goal.level-level-requires
level-level-requires g c =
    let (_, (can, falsified)) = c.requires in
    let sees = can.sees in
    read-inside g.s sees.well c.args.parts.impl_graph.now.nodes.items c.args.lit c.var.result sees.nodes_are c.var.ensures falsified

pub bounds-var_flags-index : goal.bounds-var_flags-index
bounds-var_flags-index g c =
    let (_, (can, falsified)) = c.requires in
    let i = has-flag can c.args.lit falsified in
    omega (arith, i, c.index.ensures.index)

pub returns-then-var_flags-index : goal.returns-then-var_flags-index
returns-then-var_flags-index g c = inr (subst (λ x. get_or c.args.var_flags.now x false ≡ true) c.index.ensures.index c.if-var_flags-index.true)

pub returns-then-level-eq0 : goal.returns-then-level-eq0
returns-then-level-eq0 g c =
    let (_, (can, _)) = c.requires in
    let sees = can.sees in
    let lv = level-read g.s c.args.parts.impl_graph.now.nodes.items c.args.lit c.var.result c.level-level.result sees.nodes_are c.var.ensures
    c.level-level.ensures in
    inl (sym lv ∙ c.if-level-eq0.true)

pub returns : goal.returns
returns g c =
    let (_, (can, falsified)) = c.requires in
    let sees = can.sees in
    let lv = level-read g.s c.args.parts.impl_graph.now.nodes.items c.args.lit c.var.result c.level-level.result sees.nodes_are c.var.ensures
    c.level-level.ensures in
    let z = c.if-level-eq0.false in (
      lv,
      omega (arith, z),
      subst (λ x. get_or c.args.var_flags.now x false ≡ false) c.index.ensures.index c.if-var_flags-index.false,
      has-flag can
          c.args.lit falsified,
    )
