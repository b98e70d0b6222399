use Rattle.std.proofs.Common.{ℕ, List, ◌-◌, length, take, drop, sym, subst}
use Rattle.varisat_present.specs.Places.{LosesMarks, MarksKnown, AreFarPlaced}
use Rattle.varisat_present.proofs.KnownMarks.{marked_cut}
use Rattle.varisat_present.proofs.FarPlaces.{far_cut}
use Rattle.varisat_present.proofs.known.Known.cut.Goals as goal

pub invariant_of-self : goal.invariant_of-self
invariant_of-self g c =
    let old = c.self.inside in
    subst (λ (xs : List ℕ). MarksKnown xs c.unmark.new.marks.items × AreFarPlaced xs old.far) (sym c.truncate.ensures.items) (
      marked_cut old.literals.items old.marks.items c.unmark.new.marks.items c.args.count
          (subst (λ (xs : List ℕ). LosesMarks (take (length xs - c.args.count) (drop c.args.count xs)) old.marks.items c.unmark.new.marks.items)
          c.deref.ensures.value c.unmark.ensures) c.self.invariant.0,
      far_cut old.literals.items old.far c.args.count c.self.invariant.1,
    )
