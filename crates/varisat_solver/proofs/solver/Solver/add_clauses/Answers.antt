-- A clause more is accepted, or refused.
use Rattle.std.proofs.Common.{◌≡◌, ◌∙◌, ◌++◌, ◌∷◌, [], Err, refl, sym, ap, subst, map, append_assoc, append-nil, Ok}
use Rattle.std.proofs.lemmas.List.{map-append}
use Rattle.varisat_solver.specs.promises.Calls.{by_state}
use Rattle.varisat_solver.specs.promises.Additions.{AddsAll}
use Rattle.varisat_solver.proofs.accepting.Additions.{logged-error, adds-last, adds-refused}
use Rattle.varisat_solver.specs.promises.Refusals.{returned_faults}
use Rattle.varisat_solver.specs.declared.solver.SolverError.TheVariants.{ClauseStoreFull}
use Rattle.varisat_solver.proofs.entries.Targets.{writes-nothing, all-then, up-to-then, same-error}
use Rattle.varisat_solver.proofs.solver.Solver.add_clauses.Goals as goal

pub loop-clause-init : goal.loop-clause-init
loop-clause-init g c = record {
  target = writes-nothing c.args.self.now.opened;
  so_far = λ s st. (s, (refl, refl), st);
  whole = c.into_iter-clause-iterator.ensures.into_iter_gives ∙ c.iter-clause-items.ensures;
}

pub loop-clause-preserved : goal.loop-clause-preserved
loop-clause-preserved g c =
    let seen : map (λ c. c.now) (c.loop-clause.yielded ++ c.in-Some.clause ∷ []) ≡ map
    (λ c. c.now) c.loop-clause.yielded ++ c.in-Some.clause.now ∷ [] = map-append _ _ _ in
    record {
      target = all-then _ _ _ c.loop-clause.invariant.target (c.in_ok-add_clause.ensures {u = tt}).target;
      so_far = λ s st.
          let (t, r, q) = c.loop-clause.invariant.so_far s st in
          let (u, p, w) = (c.in_ok-add_clause.ensures {u = tt}).call t q in
          (u, subst (λ P. AddsAll by_state s P (Ok tt) u) (sym seen) (adds-last s t u _ _ r p), w);
      whole = ap (λ P. P ++ c.next.new.self) seen ∙ append_assoc (map (λ c. c.now) c.loop-clause.yielded)
          (c.in-Some.clause.now ∷ []) c.next.new.self ∙ ap (λ xs. map (λ c. c.now) c.loop-clause.yielded ++ xs) (sym c.in-Some.ensures.steps)
          ∙ c.loop-clause.invariant.whole;
    }

pub returns-in_err-add_clause-clause-call : goal.returns-in_err-add_clause-clause-call
returns-in_err-add_clause-clause-call g c s st =
    let (t, r, q) = c.loop-clause.invariant.so_far s st in
    let (u, p, w) = (c.in_err-add_clause.ensures {u = tt}).call t q in
    let refused = logged-error c.from_residual.result c.in_err-add_clause.field-0.0 c.from_residual.ensures in
    let parts = ap (λ xs. map (λ c. c.now) c.loop-clause.yielded ++ xs) (sym c.in-Some.ensures.steps) ∙ c.loop-clause.invariant.whole in
    (u, rw refused (subst (λ P. AddsAll by_state s P (Err c.in_err-add_clause.field-0.0) u) parts (adds-refused s t u _ _ _ _ r p)), w)

pub returns-clause-call : goal.returns-clause-call
returns-clause-call g c s st =
    let (t, r, q) = c.loop-clause.invariant.so_far s st in
    let all = sym (append-nil (map (λ c. c.now) c.loop-clause.yielded))
    ∙ ap (λ xs. map (λ c. c.now) c.loop-clause.yielded ++ xs) (sym (c.in-None.ensures {u = tt}).steps.0) ∙ c.loop-clause.invariant.whole in
    (t, subst (λ P. AddsAll by_state s P (Ok tt) t) all r, q)

pub returns-in_err-add_clause-clause-target : goal.returns-in_err-add_clause-clause-target
returns-in_err-add_clause-clause-target g c =
    let e = c.in_err-add_clause.field-0.0 in
    let refused = logged-error c.from_residual.result e c.from_residual.ensures in
    rw refused (up-to-then _ _ _ (returned_faults e) c.loop-clause.invariant.target (c.in_err-add_clause.ensures {u = tt}).target)

pub returns-in_err-add_clause-clause-full : goal.returns-in_err-add_clause-clause-full
returns-in_err-add_clause-clause-full g c f =
    let e = c.in_err-add_clause.field-0.0 in
    (c.in_err-add_clause.ensures {u = tt}).full (ap Err (same-error e ClauseStoreFull (sym (logged-error c.from_residual.result e c.from_residual.ensures) ∙ f)))

pub returns-clause-target : goal.returns-clause-target
returns-clause-target g c = c.loop-clause.invariant.target
