use Rattle.std.proofs.Common.{◌∙◌, ap, arith, take_all}
use Rattle.varisat_prop.proofs.views.ReadElements.{item-∈}
use Rattle.varisat_analysis.specs.Bumps.{bumped_each}
use Rattle.varisat_analysis.proofs.BumpedVariables.{bumped-next}
use Rattle.varisat_analysis.proofs.bumps.bump_each.Goals as goal

pub bump-requires : goal.bump-requires
bump-requires g c =
    let i = c.requires c.var-item.result (item-∈ c.args.vars.now c.loop-var.var-index c.var-item.result c.loop-var-test.true c.var-item.is) in
    let n = c.loop-var.invariant.count in
    omega (arith, i, n)

pub loop-var-preserved : goal.loop-var-preserved
loop-var-preserved g c =
    record {
      bumps = bumped-next c.args.vars.now c.loop-var.var-index c.var-item.result c.args.vsids.now c.loop-var.vsids c.bump.new.self c.loop-var-test.true
          c.var-item.is c.loop-var.invariant.bumps c.bump.ensures.bumped;
      count = c.bump.ensures.count ∙ c.loop-var.invariant.count;
    }

pub returns-clause-bumps : goal.returns-clause-bumps
returns-clause-bumps g c =
    c.loop-var.invariant.bumps ∙ ap (λ xs. bumped_each xs c.args.vsids.now) (take_all c.loop-var.var-index c.args.vars.now c.loop-var-test.false)
