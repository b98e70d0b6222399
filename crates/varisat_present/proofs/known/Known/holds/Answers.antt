use Rattle.std.proofs.Common.{◌↔◌, IsTrue, ℕ, List, sym, subst, arith}
use Rattle.varisat_theory.specs.promises.Membership.{◌∈◌}
use Rattle.varisat_plain.proofs.Scans.{answers_false}
use Rattle.varisat_present.proofs.KnownMarks.{marked_or_not, not_past}
use Rattle.varisat_present.proofs.known.Known.holds.Goals as goal

pub returns-then-code-len : goal.returns-then-code-len
returns-then-code-len g c =
    subst (λ (xs : List ℕ). IsTrue c.index.result.now ↔ (c.args.literal ∈ xs)) c.self.view_is
    (marked_or_not c.self.inside.literals.items c.self.inside.marks.items c.args.literal c.code-code.result c.index.result.now c.self.invariant.0
    c.code-code.ensures.code (omega (arith, c.if-code-len.true, c.len.ensures)) c.index.ensures)

pub returns : goal.returns
returns g c =
    answers_false _ (λ m. not_past c.self.inside.literals.items c.self.inside.marks.items c.args.literal c.self.invariant.0
    (omega (arith, c.if-code-len.false, c.len.ensures, c.code-code.ensures.code))
    (omega (arith, c.if-code-ge-PLACE_LIMIT.false, c.code-code.ensures.code)) (subst (λ (xs : List ℕ). c.args.literal ∈ xs) (sym c.self.view_is) m))
