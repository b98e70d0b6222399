use Rattle.std.proofs.Common.{◌*◌, ap, ◌∙◌, ◌++◌, ◌∷◌, [], List, ℕ, length, arith}
use Rattle.std.proofs.lemmas.List.{length-append}
use Rattle.varisat_database.proofs.WrittenLemmas.{given_view, added_view, written_more, written_step}
use Rattle.varisat_database.proofs.history.History.push.Goals as goal

pub returns-then-is_given-clause-ok : goal.returns-then-is_given-clause-ok
returns-then-is_given-clause-ok g c =
    given_view c.self.inside.clauses c.push.new.self c.args.clause.now c.self.inside.steps.items c.args.is_given c.args.self.now c.self.view_is
    c.if-is_given.true (c.in_ok-push.ensures {u = tt}).ok c.self.invariant

pub invariant_of-self-2 : goal.invariant_of-self-2
invariant_of-self-2 g c =
    let cs = c.self.inside.clauses in
    let e = (c.in_ok-push-2.ensures {u = tt}).ok in
    let a = c.len-place.ensures in
    let b = c.if-place-ge-MOST_CLAUSES.false in
    let n = length-append cs (c.args.clause.now ∷ []) in
    let m = ap length e in
    written_step c.push-2.new.self c.self.inside.steps.items c.push_reserved.new.self.items (2 * c.len-place.result)
    (c.push_reserved.ensures.items ∙ ap (λ (xs : List ℕ). xs ++ (2 * c.len-place.result) ∷ []) c.reserve.ensures.items) (omega (arith, a, n, m))
    (written_more cs c.push-2.new.self c.args.clause.now c.self.inside.steps.items e (omega (arith, a, b)) c.self.invariant)

pub returns-clause-ok : goal.returns-clause-ok
returns-clause-ok g c =
    added_view c.self.inside.clauses c.push-2.new.self c.args.clause.now c.self.inside.steps.items c.push_reserved.new.self.items (2 * c.len-place.result)
    c.args.is_given c.args.self.now c.self.view_is c.if-is_given.false (c.in_ok-push-2.ensures {u = tt}).ok
    (c.push_reserved.ensures.items ∙ ap (λ (xs : List ℕ). xs ++ (2 * c.len-place.result) ∷ []) c.reserve.ensures.items)
    (ap (λ n. 2 * n) c.len-place.ensures) c.self.invariant
