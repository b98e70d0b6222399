use Rattle.std.proofs.Common.{◌≡◌, ◌<◌, ◌∙◌, ◌+◌, ◌++◌, ◌∷◌, [], refl, sym, ap, subst, map, take, length, append_assoc, append-nil, arith}
use Rattle.std.proofs.lemmas.List.{map-append, length-append, take_all}
use Rattle.varisat_formula.specs.promises.Values.{assignment_of}
use Rattle.varisat_maxsat.specs.promises.Problems.{paired, cost}
use Rattle.varisat_maxsat.proofs.Standing.{cost-next, cost-past, clause-room}
use Rattle.varisat_maxsat.proofs.problem.cost_of.Goals as goal

pub loop-clause-init : goal.loop-clause-init
loop-clause-init g c = record {
  so_far = refl;
  whole = c.into_iter-clause-iterator.ensures.into_iter_gives ∙ c.iter-clause-items.ensures;
  place = refl;
}

pub bounds-weights-index : goal.bounds-weights-index
bounds-weights-index g c = clause-room _ _ _ _ _ _ c.loop-clause.invariant.place
    (ap (λ xs. map (λ c. c.now) c.loop-clause.yielded ++ xs) (sym c.in-Some.ensures.steps) ∙ c.loop-clause.invariant.whole) c.requires

pub loop-clause-preserved : goal.loop-clause-preserved
loop-clause-preserved g c =
    let seen : map (λ c. c.now) (c.loop-clause.yielded ++ c.in-Some.clause ∷ []) ≡ map
    (λ c. c.now) c.loop-clause.yielded ++ c.in-Some.clause.now ∷ [] = map-append _ _ _ in
    let room : c.loop-clause.index < length c.args.weights.now = clause-room _ _ _ _ _ _ c.loop-clause.invariant.place
    (ap (λ xs. map (λ c. c.now) c.loop-clause.yielded ++ xs) (sym c.in-Some.ensures.steps) ∙ c.loop-clause.invariant.whole) c.requires in
    record {
      so_far = cost-next _ _ _ _ _ c.in-Some.clause.now _ _ _ room c.loop-clause.invariant.place seen c.loop-clause.invariant.so_far c.missed.ensures (c.in_ok-sum.ensures {u = tt}).1;
      whole = ap (λ P. P ++ c.next.new.self) seen ∙ append_assoc (map (λ c. c.now) c.loop-clause.yielded)
          (c.in-Some.clause.now ∷ []) c.next.new.self ∙ ap (λ xs. map (λ c. c.now) c.loop-clause.yielded ++ xs) (sym c.in-Some.ensures.steps)
          ∙ c.loop-clause.invariant.whole;
      place = let e : length (map (λ c. c.now) (c.loop-clause.yielded ++ c.in-Some.clause ∷ [])) ≡ length (map (λ c. c.now) c.loop-clause.yielded) + 1 =
          ap length seen ∙ length-append (map (λ c. c.now) c.loop-clause.yielded) (c.in-Some.clause.now ∷ []) in let f = c.loop-clause.invariant.place in omega arith;
    }

pub returns-clause-some : goal.returns-clause-some
returns-clause-some g c =
    let all = sym (append-nil (map (λ c. c.now) c.loop-clause.yielded))
    ∙ ap (λ xs. map (λ c. c.now) c.loop-clause.yielded ++ xs) (sym (c.in-None.ensures {u = tt}).steps.0) ∙ c.loop-clause.invariant.whole in
    subst (λ x. c.loop-clause.sum ≡ cost (assignment_of c.args.values.now) (paired x c.args.formula.now.clauses))
    (take_all c.loop-clause.index c.args.weights.now (let e = ap length all in let f = c.loop-clause.invariant.place in let h = c.requires in omega arith))
    (subst (λ x. c.loop-clause.sum ≡ cost (assignment_of c.args.values.now) (paired (take c.loop-clause.index c.args.weights.now) x)) all
    c.loop-clause.invariant.so_far)

pub returns-in_err-sum-clause-none : goal.returns-in_err-sum-clause-none
returns-in_err-sum-clause-none g c = rw c.from_residual.ensures
    (cost-past (assignment_of c.args.values.now) c.args.weights.now c.loop-clause.index (map (λ c. c.now) c.loop-clause.yielded) c.next.new.self
    c.args.formula.now.clauses c.in-Some.clause.now c.missed.result c.loop-clause.sum c.loop-clause.invariant.place
    (ap (λ xs. map (λ c. c.now) c.loop-clause.yielded ++ xs) (sym c.in-Some.ensures.steps) ∙ c.loop-clause.invariant.whole) c.requires
    c.loop-clause.invariant.so_far c.missed.ensures (c.in_err-sum.ensures {u = tt}))
