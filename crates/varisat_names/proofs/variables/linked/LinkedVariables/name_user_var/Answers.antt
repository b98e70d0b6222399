use Rattle.std.proofs.Common.{sym, ap, ◌∙◌, refl, arith}
use Rattle.varisat_names.specs.promises.Variables.{InUse, Free}
use Rattle.varisat_names.specs.promises.VarMap.{at}
use Rattle.varisat_names.proofs.Maps.{is_none-none, some-of}
use Rattle.varisat_names.proofs.variables.linked.LinkedVariables.name_user_var.Goals as goal

pub returns-in_ok-give_user_var-clause-named : goal.returns-in_ok-give_user_var-clause-named
returns-in_ok-give_user_var-clause-named g c =
    let below = c.if-index-user_watermark.false in
    let index = c.index.ensures.index in
    let watermark = c.user_watermark.ensures in
    Free c.in_ok-give_user_var.field-0 (omega (arith, below, index, watermark))
    (ap (λ m. at m c.args.user) (sym c.global_from_user.ensures) ∙ sym c.get.ensures
    ∙ is_none-none c.get.result (c.if-is_none.ensures {u = tt})) ((c.in_ok-give_user_var.ensures {u = tt}).given)

pub returns-else-is_none-clause-named : goal.returns-else-is_none-clause-named
returns-else-is_none-clause-named g c =
    let (x, e) = some-of c.get.result (c.if-is_none.ensures {u = tt}) in
    InUse x (ap (λ m. at m c.args.user) (sym c.global_from_user.ensures) ∙ sym c.get.ensures ∙ e) refl
