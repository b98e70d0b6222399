use Rattle.std.specs.BTreeMap.{Updates}
use Rattle.std.specs.Ordering.{nat_cmp}
use Rattle.std.proofs.Common.{Some, ℕ, List, subst, sym, arith}
use Rattle.varisat_theory.specs.promises.Membership.{◌∈◌}
use Rattle.varisat_present.specs.Places.{MarksKnown, AreFarPlaced}
use Rattle.varisat_present.proofs.KnownMarks.{marked_same, marked_at, marked_far}
use Rattle.varisat_present.proofs.FarPlaces.{far_near, far_other, far_pushed}
use Rattle.varisat_present.proofs.known.Known.push.Given.{Over}
use Rattle.varisat_present.proofs.known.Known.push.Goals.{In_ok-insert}
use Rattle.varisat_present.proofs.known.Known.push.Goals as goal

pub invariant_of-self-2 : goal.invariant_of-self-2
invariant_of-self-2 g c =
    let old = c.self.inside in
    let grown = c.in_ok-reach.ensures in (
      marked_at old.literals.items c.push-2.new.self.items c.reach.new.marks.items c.args.literal c.code-code.result
          (marked_same old.literals.items old.marks.items c.reach.new.marks.items grown.short grown.same c.self.invariant.0)
          (λ m. c.requires (subst (λ (xs : List ℕ). c.args.literal ∈ xs) c.self.view_is m)) grown.reached c.code-code.ensures.code c.in_ok-push-2.ensures.items,
      far_near old.literals.items c.push-2.new.self.items old.far c.args.literal c.self.invariant.1
          (omega (arith, c.if-code-ge-PLACE_LIMIT.false, c.code-code.ensures.code)) c.in_ok-push-2.ensures.items,
    )

pub invariant_of-self-in_err-reach : goal.invariant_of-self-in_err-reach
invariant_of-self-in_err-reach g c =
    let old = c.self.inside in (
      marked_same old.literals.items old.marks.items c.reach.new.marks.items c.in_err-reach.ensures.short c.in_err-reach.ensures.same c.self.invariant.0,
      c.self.invariant.1,
    )

pub invariant_of-self-in_err-push-2 : goal.invariant_of-self-in_err-push-2
invariant_of-self-in_err-push-2 g c =
    let old = c.self.inside in
    let grown = c.in_ok-reach.ensures in
    subst (λ (xs : List ℕ). MarksKnown xs c.reach.new.marks.items × AreFarPlaced xs old.far) (sym c.in_err-push-2.ensures.items) (
      marked_same old.literals.items old.marks.items c.reach.new.marks.items grown.short grown.same c.self.invariant.0,
      c.self.invariant.1,
    )

-- the place of the literal in the map
updates : (g : Over) (c : In_ok-insert g) → Updates nat_cmp c.self.inside.far c.insert.new.self c.args.literal (Some c.len-place.result)
updates g c = subst (λ (x : ℕ). Updates nat_cmp c.self.inside.far c.insert.new.self x (Some c.len-place.result)) c.code-code.ensures.code
    c.in_ok-insert.ensures.updates

-- it is not known yet
absent : (g : Over) (c : In_ok-insert g) → c.args.literal ∈ c.self.inside.literals.items → ⊥
absent g c m = c.requires (subst (λ (xs : List ℕ). c.args.literal ∈ xs) c.self.view_is m)

pub invariant_of-self-in_err-push : goal.invariant_of-self-in_err-push
invariant_of-self-in_err-push g c =
    let here = (goal.at.invariant_of-self-in_err-push g c).In_ok-insert in
    let old = c.self.inside in
    subst (λ (xs : List ℕ). MarksKnown xs old.marks.items × AreFarPlaced xs c.insert.new.self) (sym c.in_err-push.ensures.items) (
      c.self.invariant.0,
      far_other old.literals.items old.far c.insert.new.self c.args.literal c.len-place.result c.self.invariant.1 (absent g here) (updates g here),
    )

pub invariant_of-self-then-code-ge-PLACE_LIMIT : goal.invariant_of-self-then-code-ge-PLACE_LIMIT
invariant_of-self-then-code-ge-PLACE_LIMIT g c =
    let here = (goal.at.invariant_of-self-then-code-ge-PLACE_LIMIT g c).In_ok-insert in
    let old = c.self.inside in (
      marked_far old.literals.items c.push.new.self.items old.marks.items c.args.literal c.code-code.result c.self.invariant.0
          (absent g here) c.code-code.ensures.code
          (omega (arith, c.if-code-ge-PLACE_LIMIT.true)) c.in_ok-push.ensures.items,
      far_pushed old.literals.items c.push.new.self.items old.far c.insert.new.self c.args.literal c.len-place.result c.self.invariant.1 (absent g here)
          (updates g here) (omega (arith, c.len-place.ensures)) c.in_ok-push.ensures.items,
    )
