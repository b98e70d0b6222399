use Rattle.std.proofs.Common.{◌≡◌, ◌<◌, ◌∙◌, ◌+◌, ◌++◌, ◌∷◌, [], refl, sym, ap, subst, map, take, length, append_assoc, append-nil, arith}
use Rattle.std.proofs.lemmas.List.{map-append, length-append, take_all}
use Rattle.varisat_maxsat.specs.promises.Problems.{paired}
use Rattle.varisat_maxsat.specs.inside.Reductions.{ReducesTo}
use Rattle.varisat_maxsat.proofs.Standing.{soft-next, clause-room}
use Rattle.varisat_maxsat.proofs.problem.add_all_soft.Goals as goal

pub loop-clause-init : goal.loop-clause-init
loop-clause-init g c = record {
  so_far = λ p st. subst (λ x. ReducesTo (record p { soft = x }) c.args.reduction.now) (sym (append-nil p.soft)) st;
  whole = c.into_iter-clause-iterator.ensures.into_iter_gives ∙ c.iter-clause-items.ensures;
  place = refl;
}

pub bounds-weights-index : goal.bounds-weights-index
bounds-weights-index g c = clause-room _ _ _ _ _ _ c.loop-clause.invariant.place
    (ap (λ xs. map (λ c. c.now) c.loop-clause.yielded ++ xs) (sym c.in-Some.ensures.steps) ∙ c.loop-clause.invariant.whole) c.requires

pub loop-clause-preserved : goal.loop-clause-preserved
loop-clause-preserved g c =
    let seen : map (λ c. c.now) (c.loop-clause.yielded ++ c.in-Some.clause ∷ []) ≡ map
    (λ c. c.now) c.loop-clause.yielded ++ c.in-Some.clause.now ∷ [] = map-append _ _ _ in
    let room : c.loop-clause.index < length c.args.weights.now = clause-room _ _ _ _ _ _ c.loop-clause.invariant.place
    (ap (λ xs. map (λ c. c.now) c.loop-clause.yielded ++ xs) (sym c.in-Some.ensures.steps) ∙ c.loop-clause.invariant.whole) c.requires in
    record {
      so_far = λ p st. soft-next p _ _ _ _ _ c.in-Some.clause.now room c.loop-clause.invariant.place seen
          (c.in_ok-add_soft.ensures _ (c.loop-clause.invariant.so_far p st));
      whole = ap (λ P. P ++ c.next.new.self) seen ∙ append_assoc (map (λ c. c.now) c.loop-clause.yielded)
          (c.in-Some.clause.now ∷ []) c.next.new.self ∙ ap (λ xs. map (λ c. c.now) c.loop-clause.yielded ++ xs) (sym c.in-Some.ensures.steps)
          ∙ c.loop-clause.invariant.whole;
      place = let e : length (map (λ c. c.now) (c.loop-clause.yielded ++ c.in-Some.clause ∷ [])) ≡ length (map (λ c. c.now) c.loop-clause.yielded) + 1 =
          ap length seen ∙ length-append (map (λ c. c.now) c.loop-clause.yielded) (c.in-Some.clause.now ∷ []) in let f = c.loop-clause.invariant.place in omega arith;
    }

pub returns : goal.returns
returns g c = λ p st.
    let all = sym (append-nil (map (λ c. c.now) c.loop-clause.yielded))
    ∙ ap (λ xs. map (λ c. c.now) c.loop-clause.yielded ++ xs) (sym (c.in-None.ensures {u = tt}).steps.0) ∙ c.loop-clause.invariant.whole in
    subst (λ x. ReducesTo (record p { soft = p.soft ++ paired x c.args.formula.now.clauses }) c.loop-clause.reduction)
    (take_all c.loop-clause.index c.args.weights.now (let e = ap length all in let f = c.loop-clause.invariant.place in let h = c.requires in omega arith))
    (subst (λ x. ReducesTo (record p { soft = p.soft ++ paired (take c.loop-clause.index c.args.weights.now) x }) c.loop-clause.reduction) all
    (c.loop-clause.invariant.so_far p st))
