use Rattle.std.proofs.Common.{◌<◌, length, ap, ◌∙◌, subst, arith}
use Rattle.std.specs.List.{swap}
use Rattle.varisat_theory.specs.promises.Membership.{◌∈◌}
use Rattle.varisat_theory.specs.promises.Literals.{Clause}
use Rattle.varisat_prop.proofs.views.ReadElements.{item-∈}
use Rattle.varisat_prop.proofs.watching.LongRearranged.{swap-rearranged}
use Rattle.varisat_prop.proofs.prop.long.find_other.Goals as goal

pub lit_is_false-requires : goal.lit_is_false-requires
lit_is_false-requires g c =
    let h : c.loop-place.place < length c.loop-place.lits = let l = ap (λ (x : Clause). length x) c.loop-place.invariant.same in
    omega (arith, c.loop-place-test.true, c.loop-place.auto.lits, l) in
    c.requires.within c.index-lits-place.result
    (subst (λ x. c.index-lits-place.result ∈ x) c.loop-place.invariant.same
    (item-∈ c.loop-place.lits c.loop-place.place c.index-lits-place.result h c.index-lits-place.is))

pub returns-then-not-lit_is_false-clause-rearranged : goal.returns-then-not-lit_is_false-clause-rearranged
returns-then-not-lit_is_false-clause-rearranged g c =
    swap-rearranged c.args.lits.now c.swap.new.self 1 c.loop-place.place (omega (arith, c.requires.long)) (omega (arith, c.loop-place-test.true))
    (c.swap.ensures.after ∙ ap (λ x. swap x 1 c.loop-place.place) c.loop-place.invariant.same)
