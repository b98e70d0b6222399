use Rattle.std.proofs.Common.{◌≡◌, refl, ◌++◌, ◌∷◌, [], sym, ◌∙◌, ap, subst, arith, length, append_assoc, rules}
use Rattle.std.proofs.lemmas.List.{nil_from_length, append-nil}
use Rattle.std.specs.Vec.Iter.{into_iter_items}
use Rattle.varisat_solver.specs.promises.States.{Ledger}
use Rattle.varisat.specs.promises.Runs.{Run, AreReady}
use Rattle.varisat_solver.proofs.entries.LoggedJournals.{journal-of}
use Rattle.varisat.proofs.RunsLogged.{run-push, ready-next}
use Rattle.varisat.proofs.FewSteps.{run-stays-few}
use Rattle.varisat.proofs.StoryAnswers.{run-is-answered}
use Rattle.varisat.proofs.session.run.Goals as goal

pub loop-call-init : goal.loop-call-init
loop-call-init g c = record {
  so_far = λ s st. (
    s,
    (let none : c.in_ok-answers.answers.items ≡ [] = search rules in
        subst (λ answers. Run g.S.ByteSource.input g.W.ProofTarget.taken s [] answers s) (sym none) refl),
    st,
  );
  room = search rules;
  left = search rules;
  whole = search rules;
}

pub make_call-requires : goal.make_call-requires
make_call-requires g c =
    ready-next g.S.ByteSource.input g.W.ProofTarget.taken c.loop-call.yielded _ c.in-Some.call
    (subst (λ cs. AreReady g.S.ByteSource.input g.W.ProofTarget.taken cs)
    (sym (ap (λ xs. c.loop-call.yielded ++ xs) (sym c.in-Some.ensures.steps.0) ∙ c.loop-call.invariant.whole)) c.requires)

pub loop-call-preserved : goal.loop-call-preserved
loop-call-preserved g c = record {
  so_far = λ s st.
      let (t, r, q) = c.loop-call.invariant.so_far s st in
      let (u, p, w) = c.make_call.ensures t q in (
        u,
        rw c.push_reserved.ensures.items (run-push _ _ s t u c.loop-call.yielded c.loop-call.answers.items c.in-Some.call c.make_call.result r p
            (λ v. journal-of _ u w (ap (λ (l : Ledger). l.valid) (sym w.ledger) ∙ v))),
        w,
      );
  room = omega (arith, c.loop-call.invariant.room, c.in-Some.ensures.steps.1, c.push_reserved.ensures.len, c.push_reserved.ensures.capacity);
  left = let e = ap length c.in-Some.ensures.steps.0 in omega (arith, e, c.loop-call.invariant.left, c.in-Some.ensures.steps.1);
  whole = append_assoc c.loop-call.yielded (c.in-Some.call ∷ []) _ ∙ ap (λ xs. c.loop-call.yielded ++ xs) (sym c.in-Some.ensures.steps.0)
      ∙ c.loop-call.invariant.whole;
}

pub returns-clause-run : goal.returns-clause-run
returns-clause-run g c s st =
    let none = nil_from_length (into_iter_items c.loop-call.call-iterator) (sym c.loop-call.invariant.left ∙ c.in-None.ensures.steps.0) in
    let e = sym (append-nil c.loop-call.yielded) ∙ ap (λ xs. c.loop-call.yielded ++ xs) (sym none) ∙ c.loop-call.invariant.whole in
    let (t, r, q) = c.loop-call.invariant.so_far s st in
    (t, subst (λ cs. Run g.S.ByteSource.input g.W.ProofTarget.taken s cs c.loop-call.answers.items t) e r, q)

pub returns-clause-answers : goal.returns-clause-answers
returns-clause-answers g c s st =
    let none = nil_from_length (into_iter_items c.loop-call.call-iterator) (sym c.loop-call.invariant.left ∙ c.in-None.ensures.steps.0) in
    let e = sym (append-nil c.loop-call.yielded) ∙ ap (λ xs. c.loop-call.yielded ++ xs) (sym none) ∙ c.loop-call.invariant.whole in
    let (t, r, q) = c.loop-call.invariant.so_far s st in
    run-is-answered g.S.ByteSource.input g.W.ProofTarget.taken c.args.calls.items c.loop-call.answers.items _ s t st
    (subst (λ cs. Run g.S.ByteSource.input g.W.ProofTarget.taken s cs c.loop-call.answers.items t) e r)

pub returns-clause-few : goal.returns-clause-few
returns-clause-few g c s st =
    run-stays-few g.S.ByteSource.input g.W.ProofTarget.taken c.args.calls.items c.loop-call.answers.items s (c.prove_journal.ensures.few s st)
