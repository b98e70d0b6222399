use Rattle.std.proofs.Common.{◌≡◌, ◌∙◌, ◌++◌, ◌∷◌, [], sym, ap, subst, map, append_assoc, append-nil}
use Rattle.std.proofs.lemmas.List.{map-append}
use Rattle.varisat_maxsat.specs.inside.Reductions.{ReducesTo}
use Rattle.varisat_maxsat.proofs.Standing.{hard-next}
use Rattle.varisat_maxsat.proofs.problem.add_all_hard.Goals as goal

pub loop-clause-init : goal.loop-clause-init
loop-clause-init g c = record {
  so_far = λ p st. subst (λ x. ReducesTo (record p { hard = x }) c.args.reduction.now) (sym (append-nil p.hard)) st;
  whole = c.into_iter-clause-iterator.ensures.into_iter_gives ∙ c.iter-clause-items.ensures;
}

pub loop-clause-preserved : goal.loop-clause-preserved
loop-clause-preserved g c =
    let seen : map (λ c. c.now) (c.loop-clause.yielded ++ c.in-Some.clause ∷ []) ≡ map
    (λ c. c.now) c.loop-clause.yielded ++ c.in-Some.clause.now ∷ [] = map-append _ _ _ in
    record {
      so_far = λ p st. hard-next p _ _ _ c.in-Some.clause.now seen (c.in_ok-add_hard.ensures _ (c.loop-clause.invariant.so_far p st));
      whole = ap (λ P. P ++ c.next.new.self) seen ∙ append_assoc (map (λ c. c.now) c.loop-clause.yielded)
          (c.in-Some.clause.now ∷ []) c.next.new.self ∙ ap (λ xs. map (λ c. c.now) c.loop-clause.yielded ++ xs) (sym c.in-Some.ensures.steps)
          ∙ c.loop-clause.invariant.whole;
    }

pub returns : goal.returns
returns g c = λ p st.
    let all = sym (append-nil (map (λ c. c.now) c.loop-clause.yielded))
    ∙ ap (λ xs. map (λ c. c.now) c.loop-clause.yielded ++ xs) (sym (c.in-None.ensures {u = tt}).steps.0) ∙ c.loop-clause.invariant.whole in
    subst (λ x. ReducesTo (record p { hard = p.hard ++ x }) c.loop-clause.reduction) all (c.loop-clause.invariant.so_far p st)
