use Rattle.std.proofs.Common.{[], ◌∷◌, ◌≡◌, None, false, ◌∙◌, sym, ap, refl}
use Rattle.varisat_names.specs.promises.VarMap.{at}
use Rattle.varisat_names.specs.promises.VarData.{data_at}
use Rattle.varisat_names.proofs.Maps.{is_none-none}
use Rattle.varisat_names.specs.inside.NamesAndModes.{Shown}
use Rattle.varisat_names.proofs.NamedVariables.{shown-refused}
use Rattle.varisat_names.proofs.variables.naming.show_if_hidden.Goals as goal

pub returns-in_err-push-clause-refused : goal.returns-in_err-push-clause-refused
returns-in_err-push-clause-refused g c =
    let live : (data_at c.args.variables.now.kept c.args.global).deleted ≡ false = ap (λ d. d.deleted) (sym c.var_data_global.ensures)
    ∙ c.if-var_data_global.false in
    let got = c.get.ensures ∙ ap (λ m. at m c.args.global) c.user_from_global.ensures in
    let unnamed : at c.args.variables.now.users.backward c.args.global ≡ None = sym got
    ∙ is_none-none c.get.result (sym c.is_some.ensures ∙ c.if-is_some.false) in
    shown-refused c.from_residual-in_err-push.result (c.in_ok-user.user ∷ []) c.args.variables.now c.show.new.self c.show.new.self
    (c.show.new.self, c.args.global, live, unnamed, c.in_ok-user.ensures.shown, refl) ([], refl)

pub returns-clause-shows : goal.returns-clause-shows
returns-clause-shows g c =
    let live = ap (λ d. d.deleted) (sym c.var_data_global.ensures) ∙ c.if-var_data_global.false in
    let got = c.get.ensures ∙ ap (λ m. at m c.args.global) c.user_from_global.ensures in
    let unnamed = sym got ∙ is_none-none c.get.result (sym c.is_some.ensures ∙ c.if-is_some.false) in
    Shown c.in_ok-user.user live unnamed c.in_ok-user.ensures.shown c.in_ok-push.ensures.items
