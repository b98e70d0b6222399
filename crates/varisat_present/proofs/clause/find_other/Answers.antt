use Rattle.std.proofs.Common.{◌⊎◌, ◌≡◌, ℕ, subst}
use Rattle.varisat_theory.specs.promises.Literals.{opposite}
use Rattle.varisat_theory.specs.promises.Membership.{◌∈◌}
use Rattle.std.proofs.lemmas.List.{get_or_read}
use Rattle.varisat_present.proofs.Elements.{element_in}
use Rattle.varisat_present.proofs.KnownGrowth.{other_more, other_all}
use Rattle.varisat_present.proofs.clause.find_other.Goals as goal

pub loop-l-preserved : goal.loop-l-preserved
loop-l-preserved g c =
    let e = get_or_read c.args.clause.now c.loop-l.l-index c.l-item.result c.loop-l-test.true c.l-item.is 0 in
    other_more c.args.known.now c.args.clause.now c.loop-l.l-index c.args.literal c.loop-l.invariant
    (subst (λ (x : ℕ). (x ≡ c.args.literal) ⊎ (opposite x ∈ c.args.known.now)) e (c.is_other.ensures.no c.if-is_other.false))

pub returns-then-is_other : goal.returns-then-is_other
returns-then-is_other g c =
    let (n, o) = c.is_other.ensures.yes c.if-is_other.true in
    (element_in c.args.clause.now c.loop-l.l-index c.l-item.result c.loop-l-test.true c.l-item.is, n, o)

pub returns : goal.returns
returns g c = other_all c.args.known.now c.args.clause.now c.loop-l.l-index c.args.literal c.loop-l-test.false c.loop-l.invariant
