use Rattle.std.proofs.lemmas.Grind.{common_steps}
use Rattle.std.proofs.Common.{◌≢◌, None, get_or, arith}
use Rattle.varisat_theory.specs.promises.Literals.{variable_of}
use Rattle.varisat_prop.proofs.views.ReadElements.{item-∈}
use Rattle.varisat_analysis.proofs.FoundLiterals.{one-found, none-so-far}
use Rattle.varisat_search.proofs.unit_simplify.has_assigned.Goals as goal

pub lit_is_unk-requires : goal.lit_is_unk-requires
lit_is_unk-requires g c = c.requires c.lit-item.result (item-∈ c.args.lits.now c.loop-lit.lit-index c.lit-item.result c.loop-lit-test.true c.lit-item.is)

pub returns-then-not-lit_is_unk : goal.returns-then-not-lit_is_unk
returns-then-not-lit_is_unk g c = one-found (λ m. get_or c.args.assignment.now.current (variable_of m) None ≢ None) c.args.lits.now c.loop-lit-test.true
    c.lit-item.is (λ h. let b = c.lit_is_unk.ensures.1 h in let n = c.if-not-lit_is_unk.true in absurd cc)

pub loop-lit-preserved : goal.loop-lit-preserved
loop-lit-preserved g c = none-so-far (λ m. get_or c.args.assignment.now.current (variable_of m) None ≢ None) c.args.lits.now c.loop-lit-test.true
    c.lit-item.is c.loop-lit.invariant (λ t. t (c.lit_is_unk.ensures.0 c.if-not-lit_is_unk.false))

pub returns : goal.returns
returns g c = grind (arith, common_steps)
