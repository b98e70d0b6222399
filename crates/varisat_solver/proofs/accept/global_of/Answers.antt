use Rattle.std.proofs.Common.{◌≡◌, Some, inl, sym, ap, ◌∙◌, refl, subst}
use Rattle.std.specs.Option.{IsSome}
use Rattle.varisat_theory.specs.promises.Literals.{variable_of}
use Rattle.varisat_names.specs.promises.VarMap.{at}
use Rattle.varisat_solver.proofs.accept.global_of.Goals as goal

pub unwrap-requires : goal.unwrap-requires
unwrap-requires g c =
    let l = c.args.lit in
    let t = c.args.variables.now in
    subst IsSome (sym (c.get.ensures ∙ ap (λ m. at m c.var.result) c.global_from_user.ensures ∙ ap (at t.users.forward) c.var.ensures))
    (c.requires.named l (inl refl))

pub returns-clause-live : goal.returns-clause-live
returns-clause-live g c =
    let l = c.args.lit in
    let t = c.args.variables.now in
    let e : at t.users.forward (variable_of l) ≡ Some c.unwrap.result =
    sym (c.get.ensures ∙ ap (λ m. at m c.var.result) c.global_from_user.ensures ∙ ap (at t.users.forward) c.var.ensures) ∙ c.unwrap.ensures in
    c.prove_linked.ensures.named c.unwrap.result (variable_of l) (c.prove_linked.ensures.users.there (variable_of l) c.unwrap.result e)
