use Rattle.std.proofs.Common.{◌≡◌, refl, ◌++◌, ◌∷◌, [], sym, ◌∙◌, ap, subst, arith, length, append_assoc, rules}
use Rattle.std.proofs.lemmas.List.{nil_from_length, append-nil}
use Rattle.std.specs.Vec.Iter.{into_iter_items}
use Rattle.varisat_client.specs.promises.Runs.{MakeInTurn}
use Rattle.varisat_client.proofs.Runs.{run-push}
use Rattle.varisat_client.proofs.session.run.Goals as goal

pub loop-call-init : goal.loop-call-init
loop-call-init g c = record {
  so_far = λ p st. (
    p,
    (let none : c.in_ok-answers.answers.items ≡ [] = search rules in subst (λ answers. MakeInTurn p [] answers p) (sym none) refl),
    st,
  );
  room = search rules;
  left = search rules;
  whole = search rules;
}

pub loop-call-preserved : goal.loop-call-preserved
loop-call-preserved g c = record {
  so_far = λ p st.
      let (q, r, w) = c.loop-call.invariant.so_far p st in
      let (u, m, v) = c.make_call.ensures q w in (
        u,
        rw c.push_reserved.ensures.items (run-push p q u c.loop-call.yielded c.loop-call.answers.items c.in-Some.call c.make_call.result r m),
        v,
      );
  room = omega (arith, c.loop-call.invariant.room, c.in-Some.ensures.steps.1, c.push_reserved.ensures.len, c.push_reserved.ensures.capacity);
  left = let e = ap length c.in-Some.ensures.steps.0 in omega (arith, e, c.loop-call.invariant.left, c.in-Some.ensures.steps.1);
  whole = append_assoc c.loop-call.yielded (c.in-Some.call ∷ []) _ ∙ ap (λ xs. c.loop-call.yielded ++ xs) (sym c.in-Some.ensures.steps.0)
      ∙ c.loop-call.invariant.whole;
}

pub returns-clause-run : goal.returns-clause-run
returns-clause-run g c p st =
    let none = nil_from_length (into_iter_items c.loop-call.call-iterator) (sym c.loop-call.invariant.left ∙ c.in-None.ensures.steps.0) in
    let e = sym (append-nil c.loop-call.yielded) ∙ ap (λ xs. c.loop-call.yielded ++ xs) (sym none) ∙ c.loop-call.invariant.whole in
    let (q, r, w) = c.loop-call.invariant.so_far p st in
    (q, subst (λ cs. MakeInTurn p cs c.loop-call.answers.items q) e r, w)
