use Rattle.std.proofs.Common.{◌∙◌, ◌∷◌, [], ◌++◌, ◌≤◌, List, max, refl, sym, ap}
use Rattle.varisat_theory.specs.promises.Literals.{Literal, Clause}
use Rattle.varisat_formula.specs.promises.Formulas.{Formula, variables_of}
use Rattle.varisat_client.specs.inside.Clients.{Client}
use Rattle.varisat_client.proofs.Moving.{ends-clause, end-past, end-out}
use Rattle.varisat_client.proofs.client.Client.end_clause.Goals as goal

pub returns-then-count-gt-MOST_VARIABLES : goal.returns-then-count-gt-MOST_VARIABLES
returns-then-count-gt-MOST_VARIABLES g c = rw (← c.self.view_is) (λ free. end-past _ _ c.count_with-count.result free
    (c.count_with-count.ensures.count ∙ ap (λ (ls : List Literal). max c.self.inside.var_count (variables_of ls)) c.deref.ensures.value) c.if-count-gt-MOST_VARIABLES.true refl)

pub returns-in-Ok : goal.returns-in-Ok
returns-in-Ok g c = rw (← c.self.view_is) (λ free. ends-clause _ _ c.count_with-count.result free
    (c.count_with-count.ensures.count ∙ ap (λ (ls : List Literal). max c.self.inside.var_count (variables_of ls)) c.deref.ensures.value) c.if-count-gt-MOST_VARIABLES.false
    (ap (λ (f : Formula). f.clauses) (c.in-Ok.ensures {u = tt}) ∙ ap (λ (k : Clause). c.self.inside.pending.clauses ++ k ∷ []) c.deref-2.ensures.value) c.clear.ensures.items refl)

pub returns-in-Err : goal.returns-in-Err
returns-in-Err g c = rw (← c.self.view_is) (λ free. end-out _ _ c.count_with-count.result free
    (c.count_with-count.ensures.count ∙ ap (λ (ls : List Literal). max c.self.inside.var_count (variables_of ls)) c.deref.ensures.value) c.if-count-gt-MOST_VARIABLES.false refl)
