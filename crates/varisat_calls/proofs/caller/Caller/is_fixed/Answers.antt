use Rattle.std.proofs.Common.{◌∙◌, ap, of_z, w32}
use Rattle.std.proofs.Math.Facts.{to_z-of_z}
use Rattle.varisat_literals.specs.promises.Numbers.{literal_numbered}
use Rattle.varisat_calls.proofs.Making.{fixed-told}
use Rattle.varisat_calls.proofs.caller.Caller.is_fixed.Goals as goal

pub returns-then-is_fixed : goal.returns-then-is_fixed
returns-then-is_fixed g c = rw (← c.self.view_is)
    (fixed-told c.args.number c.literal_of.result c.is_fixed.result _ (λ e. c.if-number-eq0.false (ap (of_z w32) e))
    (c.literal_of.ensures ∙ ap literal_numbered (to_z-of_z c.ranges.number)) c.if-is_fixed.true c.is_fixed.ensures.exact c.is_fixed.ensures.call)
