use Rattle.std.proofs.Common.{◌≡◌, true, sym, subst}
use Rattle.std.proofs.lemmas.Bool.{not-false}
use Rattle.varisat_maxsat.specs.inside.Reductions.{ReducesTo, ReducesToAfter, IsRelaxed}
use Rattle.varisat_maxsat.proofs.Standing.{stands-still, best-moves}
use Rattle.varisat_maxsat.proofs.Below.{after-solution}
use Rattle.varisat_maxsat.proofs.Handing.{also-optimal, took-moves, took-passed}
use Rattle.varisat_maxsat.proofs.solving.descend.Goals as goal
use Rattle.varisat_maxsat.proofs.solving.descend.Goals.{then-branch+else-threshold-eq0+in_ok-keep_model, else-branch+in_ok-relax+else-not-branch}

pub turns-init : goal.turns-init
turns-init g c = record { ready = λ st. st; best = λ st h. h; taken = λ st x b. b }

pub returns-in_err-keep_better-clause-best : goal.returns-in_err-keep_better-clause-best
returns-in_err-keep_better-clause-best g c = λ st h.
    c.keep_better.ensures.best c.args.problem.now
    (c.in_ok-optimum.ensures c.args.problem.now (subst (λ t. ReducesToAfter true t c.args.problem.now c.search.new.self) c.if-threshold-eq0.true
    (subst (λ b. ReducesToAfter b c.turns.threshold c.args.problem.now c.search.new.self) c.if-branch.true
    (c.in_ok-search.ensures c.args.problem.now (c.turns.invariant.ready st))))).solution (c.turns.invariant.best st h)

pub returns-in_err-keep_better-clause-taken : goal.returns-in_err-keep_better-clause-taken
returns-in_err-keep_better-clause-taken g c = λ st x b.
    took-passed c.from_residual-in_err-keep_better.result c.in_err-keep_better.field-0.0 c.from_residual-in_err-keep_better.ensures (c.in_err-keep_better.ensures.taken c.args.problem.now
    (c.in_ok-optimum.ensures c.args.problem.now (subst (λ t. ReducesToAfter true t c.args.problem.now c.search.new.self) c.if-threshold-eq0.true
    (subst (λ b. ReducesToAfter b c.turns.threshold c.args.problem.now c.search.new.self) c.if-branch.true
    (c.in_ok-search.ensures c.args.problem.now (c.turns.invariant.ready st))))).solution x (c.turns.invariant.taken st x b))

pub returns-then-threshold-eq0 : goal.returns-then-threshold-eq0
returns-then-threshold-eq0 g c = record {
  ends = λ st h.
      let o = c.in_ok-optimum.ensures c.args.problem.now (subst (λ t. ReducesToAfter true t c.args.problem.now c.search.new.self) c.if-threshold-eq0.true
      (subst (λ b. ReducesToAfter b c.turns.threshold c.args.problem.now c.search.new.self) c.if-branch.true
      (c.in_ok-search.ensures c.args.problem.now (c.turns.invariant.ready st)))) in
      also-optimal c.args.problem.now _ _ _ c.in_ok-keep_better.ensures.least o
      (c.keep_better.ensures.best c.args.problem.now o.solution (c.turns.invariant.best st h));
  best = λ st h.
      c.keep_better.ensures.best c.args.problem.now
      (c.in_ok-optimum.ensures c.args.problem.now (subst (λ t. ReducesToAfter true t c.args.problem.now c.search.new.self) c.if-threshold-eq0.true
      (subst (λ b. ReducesToAfter b c.turns.threshold c.args.problem.now c.search.new.self) c.if-branch.true
      (c.in_ok-search.ensures c.args.problem.now (c.turns.invariant.ready st))))).solution (c.turns.invariant.best st h);
  taken = λ st x b.
      c.in_ok-keep_better.ensures.taken c.args.problem.now
      (c.in_ok-optimum.ensures c.args.problem.now (subst (λ t. ReducesToAfter true t c.args.problem.now c.search.new.self) c.if-threshold-eq0.true
      (subst (λ b. ReducesToAfter b c.turns.threshold c.args.problem.now c.search.new.self) c.if-branch.true
      (c.in_ok-search.ensures c.args.problem.now (c.turns.invariant.ready st))))).solution x (c.turns.invariant.taken st x b);
  reason = tt;
}

pub returns-in_err-keep_model-clause-best : goal.returns-in_err-keep_model-clause-best
returns-in_err-keep_model-clause-best g c = λ st h.
    c.keep_model.ensures.best (after-solution _ _ c.turns.threshold (subst (λ b. ReducesToAfter b c.turns.threshold c.args.problem.now c.search.new.self) c.if-branch.true
    (c.in_ok-search.ensures c.args.problem.now (c.turns.invariant.ready st)))) (c.turns.invariant.best st h)

pub returns-in_err-keep_model-clause-taken : goal.returns-in_err-keep_model-clause-taken
returns-in_err-keep_model-clause-taken g c = λ st x b.
    took-passed c.from_residual-in_err-keep_model.result c.in_err-keep_model.field-0.0 c.from_residual-in_err-keep_model.ensures (c.in_err-keep_model.ensures.taken (after-solution _ _ c.turns.threshold (subst (λ b. ReducesToAfter b c.turns.threshold c.args.problem.now c.search.new.self) c.if-branch.true
    (c.in_ok-search.ensures c.args.problem.now (c.turns.invariant.ready st)))) x (c.turns.invariant.taken st x b))

pub turns-preserved : goal.turns-preserved
turns-preserved g c =
    elim c.if-branch.branch [
      | then-branch+else-threshold-eq0+in_ok-keep_model w ↦ record {
        ready = λ st. subst (ReducesTo c.args.problem.now) (sym w.reduction-is)
            (stands-still c.args.problem.now _ _ _ (c.in_ok-search.ensures c.args.problem.now (c.turns.invariant.ready st)));
        best = λ st h. best-moves _ _ _ w.best-is (w.keep_model.ensures.best (after-solution _ _ c.turns.threshold
            (subst (λ b. ReducesToAfter b c.turns.threshold c.args.problem.now c.search.new.self) w.if-branch.true
            (c.in_ok-search.ensures c.args.problem.now (c.turns.invariant.ready st)))) (c.turns.invariant.best st h));
        taken = λ st x b. took-moves g.S.SolutionSink.takes _ _ _ _ _ x w.best-is w.sink-is (w.in_ok-keep_model.ensures.taken (after-solution _ _ c.turns.threshold
            (subst (λ b. ReducesToAfter b c.turns.threshold c.args.problem.now c.search.new.self) w.if-branch.true
            (c.in_ok-search.ensures c.args.problem.now (c.turns.invariant.ready st)))) x (c.turns.invariant.taken st x b));
      }
      | else-branch+in_ok-relax+else-not-branch w ↦ record {
        ready = λ st.
            let e : w.in_ok-relax.field-0 ≡ true = first_of (assumption w.if-not-branch.false, search (not-false, w.if-not-branch.false)) in
            subst (ReducesTo c.args.problem.now) (sym w.reduction-is)
            (subst (λ b. IsRelaxed b c.args.problem.now w.relax.new.self) e (w.in_ok-relax.ensures.relaxed c.args.problem.now c.turns.threshold
            (subst (λ b. ReducesToAfter b c.turns.threshold c.args.problem.now c.search.new.self) w.if-branch.false
            (c.in_ok-search.ensures c.args.problem.now (c.turns.invariant.ready st)))));
        best = λ st h. best-moves _ _ _ w.best-is (c.turns.invariant.best st h);
        taken = λ st x b. took-moves g.S.SolutionSink.takes _ _ _ _ _ x w.best-is w.sink-is (c.turns.invariant.taken st x b);
      }
    ]
