use Rattle.std.proofs.lemmas.Grind.{common_steps}
use Rattle.std.proofs.Common.{refl, arith}
use Rattle.varisat_prop.specs.Parts.{IsMadeTrue}
use Rattle.varisat_prop.proofs.views.ReadElements.{item-∈}
use Rattle.varisat_analysis.proofs.FoundLiterals.{one-found, none-so-far}
use Rattle.varisat_analysis.proofs.clause_literals.is_satisfied.Goals as goal

pub lit_is_true-requires : goal.lit_is_true-requires
lit_is_true-requires g c = c.requires c.lit-item.result (item-∈ c.args.lits.now c.loop-lit.lit-index c.lit-item.result c.loop-lit-test.true c.lit-item.is)

pub returns-then-lit_is_true : goal.returns-then-lit_is_true
returns-then-lit_is_true g c = one-found (IsMadeTrue c.args.assignment.now.current) c.args.lits.now c.loop-lit-test.true c.lit-item.is
    (c.if-lit_is_true.ensures.0 refl)

pub loop-lit-preserved : goal.loop-lit-preserved
loop-lit-preserved g c = none-so-far (IsMadeTrue c.args.assignment.now.current) c.args.lits.now c.loop-lit-test.true c.lit-item.is
    c.loop-lit.invariant (λ t. let b = c.if-lit_is_true.ensures.1 t in cc)

pub returns : goal.returns
returns g c = grind (arith, common_steps)
