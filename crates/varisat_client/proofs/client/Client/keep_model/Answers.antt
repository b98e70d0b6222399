use Rattle.std.proofs.Common.{List, Ok, refl, sym, subst, ap, ◌∙◌}
use Rattle.varisat_theory.specs.promises.Literals.{Literal}
use Rattle.varisat_solver.specs.promises.ReturnedLists.{returned_list}
use Rattle.varisat_client.specs.inside.LiteralSets.{IsSetOf}
use Rattle.varisat_client.specs.inside.Clients.{Client, Kept, model_of_all}
use Rattle.varisat_client.proofs.client.Client.keep_model.Goals as goal

pub returns-in-Ok-replace : goal.returns-in-Ok-replace
returns-in-Ok-replace g c =
    let list = c.in-Ok-Some.list.items in
    let e = c.deref-in-Ok.ensures.value ∙ c.in-Ok.ensures {u = tt} ∙ ap (λ (ls : List Literal). model_of_all c.args.self.now ls) c.deref.ensures.value
    ∙ ap (λ (x : Client). model_of_all x list) (sym c.self.view_is) in
    rw (← c.self.view_is) (Kept list refl
    (λ s st. c.in-Ok-Some.ensures.completable list (ap (λ o. returned_list (Ok o)) c.in-Ok-Some.field-0-is) s st)
    (subst (λ (ls : List Literal). IsSetOf ls c.replace.new.self) e (c.in-Ok-replace.ensures {u = tt})) refl)
