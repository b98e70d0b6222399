use Rattle.std.proofs.lemmas.Grind.{common_steps}
use Rattle.std.proofs.Common.{length, ◌∙◌, arith}
use Rattle.varisat_prop.proofs.views.ReadElements.{element}
use Rattle.varisat_analysis.proofs.AnalysisFlags.{cleared-more}
use Rattle.varisat_analysis.proofs.BumpedVariables.{item-below}
use Rattle.varisat_analysis.proofs.analyze_conflict.clear_flags.Goals as goal

pub bounds-var_flags-index : goal.bounds-var_flags-index
bounds-var_flags-index c =
    item-below (λ v. v) c.args.vars.now c.loop-var.var-index c.var-item.result c.index.result (length c.args.var_flags.now)
    (length c.loop-var.var_flags) c.requires c.loop-var.auto.var_flags c.loop-var-test.true c.var-item.is c.index.ensures.index

pub loop-var-preserved : goal.loop-var-preserved
loop-var-preserved c =
    let e = element c.args.vars.now c.loop-var.var-index c.var-item.result c.loop-var-test.true c.var-item.is in
    let b = item-below (λ v. v) c.args.vars.now c.loop-var.var-index c.var-item.result c.index.result (length c.args.var_flags.now)
    (length c.loop-var.var_flags) c.requires c.loop-var.auto.var_flags c.loop-var-test.true c.var-item.is c.index.ensures.index in
    cleared-more c.args.vars.now c.args.var_flags.now c.loop-var.var_flags c.loop-var.var-index c.index.result c.loop-var-test.true
    (c.index.ensures.index ∙ e) b c.loop-var.invariant

pub returns-clause-gone : goal.returns-clause-gone
returns-clause-gone c = grind (arith, common_steps)

pub returns-clause-rest : goal.returns-clause-rest
returns-clause-rest c = grind (arith, common_steps)
