use Rattle.std.proofs.Common.{sym, ap, ◌∙◌, subst, refl}
use Rattle.std.specs.Option.{IsSome}
use Rattle.varisat_names.specs.promises.VarMap.{at}
use Rattle.varisat_names.specs.promises.Variables.{InUse}
use Rattle.varisat_names.proofs.NamedVariables.{named-here}
use Rattle.varisat_names.proofs.variables.naming.global_from_user.Goals as goal

pub returns-in-Some-clause-named : goal.returns-in-Some-clause-named
returns-in-Some-clause-named g c = InUse c.in-Some.global (sym (c.in-Some.ensures ∙ ap (λ m. at m c.args.user) c.global_from_user.ensures)) refl

pub unwrap-global-requires : goal.unwrap-global-requires
unwrap-global-requires g c =
    let (x, e) = named-here c.args.user c.args.variables.now c.name_user_var.new.self c.in_ok-name_user_var.ensures.named in
    subst IsSome (sym (c.get-2.ensures ∙ ap (λ m. at m c.args.user) c.global_from_user-2.ensures ∙ e)) refl
