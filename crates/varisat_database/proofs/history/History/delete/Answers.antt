use Rattle.std.proofs.Common.{◌<◌, ◌+◌, ◌*◌, ◌++◌, ◌∷◌, [], ℕ, List, sym, ap, ◌∙◌, subst, length, arith}
use Rattle.varisat_database.specs.Written.{WrittenClauses}
use Rattle.varisat_database.proofs.WrittenLemmas.{written_step}
use Rattle.varisat_database.proofs.history.History.delete.Goals as goal

pub overflow_mul-step : goal.overflow_mul-step
overflow_mul-step g c =
    let h : c.args.place < length c.self.inside.clauses = subst (λ (w : WrittenClauses). c.args.place < length w.clauses) (sym c.self.view_is) c.requires in
    let s = c.self.invariant.small in
    omega (arith, h, s)

pub overflow_add-step : goal.overflow_add-step
overflow_add-step g c =
    let h : c.args.place < length c.self.inside.clauses = subst (λ (w : WrittenClauses). c.args.place < length w.clauses) (sym c.self.view_is) c.requires in
    let s = c.self.invariant.small in
    omega (arith, h, s)

pub invariant_of-self-2 : goal.invariant_of-self-2
invariant_of-self-2 g c =
    let h : c.args.place < length c.self.inside.clauses = subst (λ (w : WrittenClauses). c.args.place < length w.clauses) (sym c.self.view_is) c.requires in
    written_step c.self.inside.clauses c.self.inside.steps.items c.push_reserved.new.self.items (2 * c.args.place + 1)
    (c.push_reserved.ensures.items ∙ ap (λ (xs : List ℕ). xs ++ (2 * c.args.place + 1) ∷ []) c.reserve.ensures.items) (omega (arith, h)) c.self.invariant
