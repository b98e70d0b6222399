use Rattle.std.proofs.Common.{List, Some, Err, inl, refl, sym, subst, ap, ◌∙◌}
use Rattle.varisat_theory.specs.promises.Literals.{Literal, Clause}
use Rattle.varisat_formula.specs.promises.Formulas.{Formula}
use Rattle.varisat_incremental.specs.Batches.{TakesAll}
use Rattle.varisat_client.specs.declared.refusal.Refusal.TheVariants.{OutOfMemory}
use Rattle.varisat_client.specs.inside.Refusals.{store_refusal_for}
use Rattle.varisat_client.specs.inside.Clients.{Given, OutOfRoom}
use Rattle.varisat_client.proofs.Refusing.{store-room}
use Rattle.varisat_client.proofs.Moving.{gives-pending}
use Rattle.varisat_client.proofs.client.Client.give_pending.Goals as goal

pub returns-in_default : goal.returns-in_default
returns-in_default g c = λ changed free. OutOfRoom OutOfMemory refl (inl refl)

pub returns-in-Ok-add_formula : goal.returns-in-Ok-add_formula
returns-in-Ok-add_formula g c =
    let G = c.in-Ok.formula.clauses in
    let before = c.self.inside.batches in
    let after = c.take.new.self in
    let takes = subst (λ (F : List Clause). TakesAll F c.self.inside.assumed.items G before after) (ap (λ (f : Formula). f.clauses) c.replace-pending.ensures.value)
    (subst (λ (A : List Literal). TakesAll c.replace-pending.result.clauses A G before after) c.deref.ensures.value (c.in-Ok.ensures {u = tt})) in
    rw (← c.self.view_is) (λ changed free. Given free refl
    (gives-pending _ _ c.add_formula.new.self after G changed takes c.in-Ok-add_formula.ensures.call
    (ap (λ (f : Formula). f.clauses) (c.replace-pending.ensures.after ∙ c.new_in.ensures)) refl))

pub returns : goal.returns
returns g c = λ changed free. OutOfRoom (store_refusal_for c.in-Err.error) (ap Some c.store_refusal_for.ensures)
    (store-room _ c.in-Err.error (λ e. c.in-Err.ensures.full (ap Err e)))
