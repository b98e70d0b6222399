use Rattle.std.proofs.Common.{◌∷◌, [], ap, subst, ⊎_elim, take, arith}
use Rattle.varisat_theory.specs.promises.Membership.{◌∈◌}
use Rattle.varisat_theory.specs.promises.Literals.{variable_of}
use Rattle.varisat_theory.proofs.clauses.Members.{∈-append_cases}
use Rattle.varisat_prop.proofs.views.ReadElements.{item-∈}
use Rattle.varisat_solver.proofs.calls.ReadPlaces.{take-item}
use Rattle.varisat_solver.proofs.name_checks.has_var.Goals as goal

pub returns-then-index : goal.returns-then-index
returns-then-index c =
    let a = c.index.ensures.index in
    let b = c.index-in-loop-lit.ensures.index in
    let e = c.if-index.true in
    (c.lit-item.result, item-∈ c.args.clause.now c.loop-lit.lit-index c.lit-item.result c.loop-lit-test.true c.lit-item.is, omega (arith, a, b, e))

pub loop-lit-preserved : goal.loop-lit-preserved
loop-lit-preserved c =
    let t = take-item c.args.clause.now c.loop-lit.lit-index c.lit-item.result c.loop-lit-test.true c.lit-item.is in
    let x = c.index.ensures.index in
    let y = c.index-in-loop-lit.ensures.index in
    let z = c.if-index.false in
    λ m h. ⊎_elim
    (c.loop-lit.invariant m)
    (λ a. ⊎_elim (λ q e. let b = ap variable_of q in omega (arith, b, e, x, y, z)) (λ f. absurd f) a)
    (∈-append_cases m (take c.loop-lit.lit-index c.args.clause.now) (c.lit-item.result ∷ []) (subst (λ ls. m ∈ ls) t h))
