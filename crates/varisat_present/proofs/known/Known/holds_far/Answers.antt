use Rattle.std.proofs.Common.{◌<◌, ℕ, List, length, sym, subst, ◌∙◌, arith}
use Rattle.std.proofs.lemmas.List.{get_or_read}
use Rattle.varisat_theory.specs.promises.Membership.{◌∈◌}
use Rattle.varisat_plain.proofs.Scans.{answers_true, answers_false}
use Rattle.varisat_present.proofs.FarPlaces.{far_there, far_read, held_there}
use Rattle.varisat_present.proofs.known.Known.holds_far.Goals as goal

pub returns-in_default : goal.returns-in_default
returns-in_default g c =
    answers_false _ (λ m. far_there c.self.inside.literals.items c.self.inside.far c.args.literal c.code-code.result c.self.invariant.1 c.requires
    c.code-code.ensures.code c.in_default.ensures.value (subst (λ (xs : List ℕ). c.args.literal ∈ xs) (sym c.self.view_is) m))

pub returns-then-place-len : goal.returns-then-place-len
returns-then-place-len g c =
    answers_false _ (λ m.
    let (a, b) = far_read c.self.inside.literals.items c.self.inside.far c.args.literal c.code-code.result c.in-Some.place.now c.self.invariant.1 c.requires
    c.code-code.ensures.code c.in-Some.ensures.value (subst (λ (xs : List ℕ). c.args.literal ∈ xs) (sym c.self.view_is) m) in
    omega (arith, a, c.if-place-len.true, c.len.ensures))

pub returns-then-code : goal.returns-then-code
returns-then-code g c =
    answers_false _ (λ m.
    let (a, b) = far_read c.self.inside.literals.items c.self.inside.far c.args.literal c.code-code.result c.in-Some.place.now c.self.invariant.1 c.requires
    c.code-code.ensures.code c.in-Some.ensures.value (subst (λ (xs : List ℕ). c.args.literal ∈ xs) (sym c.self.view_is) m) in
    c.if-code.true (c.code.ensures.code ∙ get_or_read c.self.inside.literals.items c.in-Some.place.now c.index.result.now a c.index.ensures 0 ∙ b))

pub returns : goal.returns
returns g c =
    let there : c.in-Some.place.now < length c.self.inside.literals.items = omega (arith, c.if-place-len.false, c.len.ensures) in
    answers_true _ (subst (λ (x : ℕ). x ∈ c.args.self.now) c.code-code.ensures.code
    (subst (λ (xs : List ℕ). c.code-code.result ∈ xs) c.self.view_is
    (held_there c.self.inside.literals.items c.code-code.result c.in-Some.place.now c.index.result.now there c.index.ensures
    (sym c.code.ensures.code ∙ c.if-code.false))))
