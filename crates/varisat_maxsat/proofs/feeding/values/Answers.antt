use Rattle.std.proofs.Common.{◌≡◌, ℤ, ◌+◌, true, ◌↔◌, rules, w32, to_z, of_z, sym, ap, ◌∙◌, subst, eq-eqb, nat_eq, arith}
use Rattle.std.proofs.lemmas.Bool.{eqb-true}
use Rattle.std.proofs.Math.Facts.{to_z-of_z}
use mir.Val.{SFits}
use Rattle.varisat_client.specs.promises.Pasts.{ReturnsValue}
use Rattle.varisat_maxsat.specs.inside.Charges.{AreValues}
use Rattle.varisat_maxsat.proofs.Given.{values-next}
use Rattle.varisat_maxsat.proofs.feeding.values.Goals as goal

same-number : (r n : ℤ) → SFits w32 r → SFits w32 n → (nat_eq (of_z w32 r) (of_z w32 n) ≡ true) ↔ (r ≡ n)
same-number r n f h = (λ e. sym (to_z-of_z f) ∙ ap (to_z w32) (eqb-true _ _ e) ∙ to_z-of_z h, λ e. eq-eqb _ _ (ap (of_z w32) e))

pub loop-index-preserved : goal.loop-index-preserved
loop-index-preserved g c = let f : SFits w32 c.in_ok-number.number = search rules in
    let h : SFits w32 c.value.result = search rules in
    λ p r a t. subst (λ xs. AreValues (c.loop-index.index + 1) p.model xs) (sym c.in_ok-push.ensures.items)
    (values-next c.args.client.now c.loop-index.index c.in_ok-number.number c.value.result _ c.loop-index.values.items
    (c.in_ok-number.ensures.lit ∙ c.from_index.ensures) c.in_ok-number.ensures.some (same-number c.value.result c.in_ok-number.number h f)
    (λ q st. subst (λ n. ReturnsValue n c.value.result q) (to_z-of_z f) (c.value.ensures q st)) c.loop-index.invariant p r a t)

pub returns : goal.returns
returns g c = let e : c.loop-index.index ≡ c.args.count = omega arith in
    λ p r a t. subst (λ n. AreValues n p.model c.loop-index.values.items) e (c.loop-index.invariant p r a t)
