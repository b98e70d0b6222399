use Rattle.std.proofs.Common.{◌∙◌, ℤ, pos, ◌≤ℤ◌, ap, subst}
use Rattle.std.specs.Int.Signed.{lt_z_no}
use Rattle.std.proofs.lemmas.Float.{T_from_false}
use Rattle.std.proofs.Math.Facts.{to_z-of_z}
use Rattle.varisat_literals.specs.promises.Numbers.{variable_numbered}
use Rattle.varisat_calls.proofs.Making.{mode-set}
use Rattle.varisat_calls.proofs.caller.Caller.set_mode.Goals as goal

pub returns : goal.returns
returns g c =
    let same = to_z-of_z c.ranges.variable in
    let positive = subst (λ (z : ℤ). pos 1 ≤ℤ z) same (lt_z_no (T_from_false _ c.if-variable-lt1.false)) in
    mode-set c.args.variable _ c.in-Some.mode _ _ _ _ _ c.change_mode-set.result c.in-Some.ensures positive
    (c.variable_of.ensures ∙ ap variable_numbered same) c.answer.ensures.number c.answer.ensures.frame c.change_mode-set.ensures
