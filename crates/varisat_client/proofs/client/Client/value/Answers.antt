use Rattle.std.proofs.Common.{◌∙◌, ap, refl, sym, rules, ◌≡◌, Bool, true, false}
use Rattle.std.proofs.Math.Facts.{to_z-of_z}
use Rattle.varisat_literals.specs.promises.Numbers.{literal_numbered}
use Rattle.varisat_theory.specs.promises.Literals.{opposite}
use Rattle.varisat_client.specs.promises.Pasts.{True, False, Unknown, Refused}
use Rattle.varisat_client.proofs.Moving.{not-refused, was-refused, in-model}
use Rattle.varisat_client.proofs.client.Client.value.Goals as goal

none : (b : Bool) → b ≡ true → b ≡ false → ⊥
none b t f = let z : true ≡ false = sym t ∙ f in cc

pub returns-then-is_some : goal.returns-then-is_some
returns-then-is_some g c = rw (← c.self.view_is) (λ p st. Refused refl (was-refused _ p st (sym c.is_some.ensures ∙ c.if-is_some.true)))

pub returns-then-contains : goal.returns-then-contains
returns-then-contains g c = rw (← c.self.view_is) (λ p st.
    let free = sym c.is_some.ensures ∙ c.if-is_some.false in
    let e = c.literal_of-lit.ensures ∙ ap literal_numbered (to_z-of_z c.ranges.number) in
    True (to_z-of_z c.ranges.number) (not-refused _ p st free) ((in-model _ p _ _ st free e).0 (c.contains.ensures.0 c.if-contains.true)))

pub returns-then-contains-2 : goal.returns-then-contains-2
returns-then-contains-2 g c = rw (← c.self.view_is) (λ p st.
    let free = sym c.is_some.ensures ∙ c.if-is_some.false in
    let e = c.not.ensures ∙ ap opposite (c.literal_of-lit.ensures ∙ ap literal_numbered (to_z-of_z c.ranges.number)) in
    False (search rules) (not-refused _ p st free) ((in-model _ p _ _ st free e).0 (c.contains-2.ensures.0 c.if-contains-2.true)))

pub returns : goal.returns
returns g c = rw (← c.self.view_is) (λ p st.
    let free = sym c.is_some.ensures ∙ c.if-is_some.false in
    let e = c.literal_of-lit.ensures ∙ ap literal_numbered (to_z-of_z c.ranges.number) in
    Unknown refl
    (λ i. none _ (c.contains.ensures.1 ((in-model _ p _ _ st free e).1 i)) c.if-contains.false)
    (λ i. none _ (c.contains-2.ensures.1 ((in-model _ p _ _ st free (c.not.ensures ∙ ap opposite e)).1 i)) c.if-contains-2.false))
