-- The next place or the next power is where the walk goes on, and fits 64 bits.
use Rattle.std.proofs.Common.{ap, ◌∙◌, arith}
use Rattle.varisat_theory.specs.inside.Luby.{luby}
use Rattle.varisat_schedule.proofs.WalkPlaces.{walk-low, walk-term, walk-odd, walk-even, walk-room}
use Rattle.varisat_schedule.proofs.luby.LubySequence.advance.Goals as goal
use Rattle.varisat_schedule.proofs.luby.LubySequence.advance.Goals.{then-self-eq1, else-self-eq1}

pub overflow_add-self : goal.overflow_add-self
overflow_add-self c =
    let a = walk-low _ _ _ c.self.invariant in
    let b = c.self.view_is in
    let r = c.requires in
    omega (arith, a, b, r)

pub overflow_mul-self : goal.overflow_mul-self
overflow_mul-self c =
    let a = walk-low _ _ _ c.self.invariant in
    let d = walk-room _ _ _ c.self.invariant c.if-self-eq1.false in
    let b = c.self.view_is in
    let r = c.requires in
    omega (arith, a, b, r, d)

pub invariant_of-self : goal.invariant_of-self
invariant_of-self c =
    elim c.if-self-eq1.branch [
      | then-self-eq1 w ↦ rw w.self-inside-is (walk-odd _ _ _ c.self.invariant w.if-self-eq1.true)
      | else-self-eq1 w ↦ rw w.self-inside-is (walk-even _ _ _ c.self.invariant w.if-self-eq1.false)
    ]

pub returns-clause-term : goal.returns-clause-term
returns-clause-term c = walk-term _ _ _ c.self.invariant ∙ ap luby c.self.view_is
