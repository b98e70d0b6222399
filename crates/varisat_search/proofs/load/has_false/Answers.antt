use Rattle.std.proofs.lemmas.Grind.{common_steps}
use Rattle.std.proofs.Common.{refl, arith}
use Rattle.varisat_theory.specs.promises.Literals.{opposite}
use Rattle.varisat_prop.specs.Parts.{IsMadeTrue}
use Rattle.varisat_prop.proofs.views.ReadElements.{item-∈}
use Rattle.varisat_analysis.proofs.FoundLiterals.{one-found, none-so-far}
use Rattle.varisat_search.proofs.load.has_false.Goals as goal

pub lit_is_false-requires : goal.lit_is_false-requires
lit_is_false-requires g c = c.requires c.lit-item.result (item-∈ c.args.lits.now c.loop-lit.lit-index c.lit-item.result c.loop-lit-test.true c.lit-item.is)

pub returns-then-lit_is_false : goal.returns-then-lit_is_false
returns-then-lit_is_false g c = one-found (λ l. IsMadeTrue c.args.assignment.now.current (opposite l)) c.args.lits.now c.loop-lit-test.true
    c.lit-item.is (c.if-lit_is_false.ensures.0 refl)

pub loop-lit-preserved : goal.loop-lit-preserved
loop-lit-preserved g c = none-so-far (λ l. IsMadeTrue c.args.assignment.now.current (opposite l)) c.args.lits.now c.loop-lit-test.true c.lit-item.is
    c.loop-lit.invariant (λ t. let b = c.if-lit_is_false.ensures.1 t in cc)

pub returns : goal.returns
returns g c = grind (arith, common_steps)
