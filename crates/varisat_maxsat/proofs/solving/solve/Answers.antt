use Rattle.std.proofs.Common.{◌≡◌, ◌≢◌, true, false, refl, sym, ◌∙◌, subst, rules}
use Rattle.std.specs.Prelude.{[], ◌↔◌}
use Rattle.std.proofs.lemmas.Bool.{not-true, not-false}
use Rattle.varisat_maxsat.specs.promises.Problems.{starting, IsTooCostly, IsStopped, ReturnsFound}
use Rattle.varisat_maxsat.specs.declared.refusal.MaxSatError.TheVariants.{CostOverflow, Ended}
use Rattle.varisat_maxsat.specs.inside.Reductions.{ReducesTo, IsEnded, IfSomeOptimum}
use Rattle.varisat_maxsat.proofs.Handing.{took-nothing, handed-none, handed-best, handed-nothing, handed-so-far, other-error, passes-on}
use Rattle.varisat_maxsat.proofs.solving.solve.Goals as goal

pub returns-in_ok-optimum-in-Ok-clause-answer : goal.returns-in_ok-optimum-in-Ok-clause-answer
returns-in_ok-optimum-in-Ok-clause-answer g c = λ st.
    let e : c.in-Ok.found ≡ true = first_of (assumption c.if-not-found.false, search (not-false, c.if-not-found.false)) in
    c.in_ok-optimum-in-Ok.ensures.answer c.args.problem.now
    (subst (λ b. IsEnded b c.args.problem.now (IfSomeOptimum c.args.problem.now c.decide.new.best)) e
    (c.in-Ok.ensures.ends (c.in_ok-join_if_bounded.ensures c.args.problem.now (c.in_ok-reduce.ensures st)) tt))

pub returns-in_err-reduce-clause-taken : goal.returns-in_err-reduce-clause-taken
returns-in_err-reduce-clause-taken g c = λ st. (
  [],
  tt,
  g.met.S.SolutionSink.takes_none c.args.sink.now,
  other-error c.from_residual.result c.in_err-reduce.field-0.0 [] _ c.from_residual.ensures c.in_err-reduce.ensures.1 refl,
)

pub returns-in_err-join_if_bounded-clause-taken : goal.returns-in_err-join_if_bounded-clause-taken
returns-in_err-join_if_bounded-clause-taken g c = λ st. (
  [],
  tt,
  g.met.S.SolutionSink.takes_none c.args.sink.now,
  other-error c.from_residual-in_err-join_if_bounded.result c.in_err-join_if_bounded.field-0.0 [] _ c.from_residual-in_err-join_if_bounded.ensures
      c.in_err-join_if_bounded.ensures.1 refl,
)

pub returns-then-eq-clause-reason : goal.returns-then-eq-clause-reason
returns-then-eq-clause-reason g c = λ over st.
    c.in-Err.ensures.reason over (c.in_ok-join_if_bounded.ensures c.args.problem.now (c.in_ok-reduce.ensures st))

pub returns-then-not-found-clause-taken : goal.returns-then-not-found-clause-taken
returns-then-not-found-clause-taken g c = λ st.
    let e : c.in-Ok.found ≡ false = first_of (assumption c.if-not-found.true, search (not-true, c.if-not-found.true)) in
    handed-none g.S.SolutionSink.takes c.args.problem.now _ _ c.args.sink.now c.decide.new.sink
    (subst (λ b. IsEnded b c.args.problem.now (IfSomeOptimum c.args.problem.now c.decide.new.best)) e
    (c.in-Ok.ensures.ends (c.in_ok-join_if_bounded.ensures c.args.problem.now (c.in_ok-reduce.ensures st)) tt))
    (c.decide.ensures.taken (c.in_ok-join_if_bounded.ensures c.args.problem.now (c.in_ok-reduce.ensures st)) c.args.sink.now
    (took-nothing g.S.SolutionSink.takes c.args.problem.now c.args.sink.now (g.met.S.SolutionSink.takes_none c.args.sink.now)))

pub returns-in_err-optimum-in-Ok-clause-taken : goal.returns-in_err-optimum-in-Ok-clause-taken
returns-in_err-optimum-in-Ok-clause-taken g c = λ st.
    let (spent, none) = c.in_err-optimum-in-Ok.ensures.none in
    handed-nothing g.S.SolutionSink.takes c.args.problem.now c.decide.new.best ⊥ c.args.sink.now c.decide.new.sink
    (λ x. ReturnsFound x c.from_residual-in_err-optimum-in-Ok.result) none
    (λ x. other-error c.from_residual-in_err-optimum-in-Ok.result c.in_err-optimum-in-Ok.field-0.0 x _ c.from_residual-in_err-optimum-in-Ok.ensures (λ e. absurd cc))
    (c.in-Ok.ensures.taken (c.in_ok-join_if_bounded.ensures c.args.problem.now (c.in_ok-reduce.ensures st)) c.args.sink.now
    (took-nothing g.S.SolutionSink.takes c.args.problem.now c.args.sink.now (g.met.S.SolutionSink.takes_none c.args.sink.now)))

pub returns-then-eq-clause-taken : goal.returns-then-eq-clause-taken
returns-then-eq-clause-taken g c = λ st.
    let is : c.in-Err.error ≡ Ended = search rules in
    handed-so-far g.S.SolutionSink.takes c.args.problem.now c.decide.new.best (c.in-Err.error ≡ Ended) c.args.sink.now
    c.decide.new.sink (λ x. (c.in-Err.error ≡ Ended ↔ IsStopped x) × (c.in-Err.error ≢ Ended → x ≡ [])) (λ x h. (h, λ n. absurd (n is)))
    (c.in-Err.ensures.taken (c.in_ok-join_if_bounded.ensures c.args.problem.now (c.in_ok-reduce.ensures st)) c.args.sink.now
    (took-nothing g.S.SolutionSink.takes c.args.problem.now c.args.sink.now (g.met.S.SolutionSink.takes_none c.args.sink.now)))

pub returns-in_err-solution-in-Err-clause-taken : goal.returns-in_err-solution-in-Err-clause-taken
returns-in_err-solution-in-Err-clause-taken g c = λ st.
    let not : c.in-Err.error ≢ Ended = search rules in
    let (same, none) = c.in_err-solution-in-Err.ensures.none in
    handed-nothing g.S.SolutionSink.takes c.args.problem.now c.decide.new.best (c.in-Err.error ≡ Ended) c.args.sink.now c.decide.new.sink
    (λ x. ReturnsFound x c.from_residual-in_err-solution-in-Err.result) none
    (λ x. other-error c.from_residual-in_err-solution-in-Err.result c.in_err-solution-in-Err.field-0.0 x _ c.from_residual-in_err-solution-in-Err.ensures (λ e. not (sym same ∙ e)))
    (c.in-Err.ensures.taken (c.in_ok-join_if_bounded.ensures c.args.problem.now (c.in_ok-reduce.ensures st)) c.args.sink.now
    (took-nothing g.S.SolutionSink.takes c.args.problem.now c.args.sink.now (g.met.S.SolutionSink.takes_none c.args.sink.now)))

pub returns-in_err-solution-in-Err-clause-reason : goal.returns-in_err-solution-in-Err-clause-reason
returns-in_err-solution-in-Err-clause-reason g c =
    let (same, none) = c.in_err-solution-in-Err.ensures.none in
    passes-on c.from_residual-in_err-solution-in-Err.result c.in_err-solution-in-Err.field-0.0
    (λ e. e ≡ CostOverflow → ReducesTo (starting c.args.problem.now.variables) c.args.reduction.now → IsTooCostly c.args.problem.now)
    c.from_residual-in_err-solution-in-Err.ensures
    (λ over st. c.in-Err.ensures.reason (sym same ∙ over) (c.in_ok-join_if_bounded.ensures c.args.problem.now (c.in_ok-reduce.ensures st)))

pub returns-in_ok-optimum-in-Ok-clause-taken : goal.returns-in_ok-optimum-in-Ok-clause-taken
returns-in_ok-optimum-in-Ok-clause-taken g c = λ st.
    handed-best g.S.SolutionSink.takes c.args.problem.now c.decide.new.best _ _ ⊥ c.args.sink.now
    c.decide.new.sink c.in_ok-optimum-in-Ok.ensures.same (λ h. h)
    (c.in-Ok.ensures.taken (c.in_ok-join_if_bounded.ensures c.args.problem.now (c.in_ok-reduce.ensures st)) c.args.sink.now
    (took-nothing g.S.SolutionSink.takes c.args.problem.now c.args.sink.now (g.met.S.SolutionSink.takes_none c.args.sink.now)))

pub returns-in_ok-solution-in-Err-clause-taken : goal.returns-in_ok-solution-in-Err-clause-taken
returns-in_ok-solution-in-Err-clause-taken g c = λ st.
    let not : c.in-Err.error ≢ Ended = search rules in
    handed-best g.S.SolutionSink.takes c.args.problem.now c.decide.new.best _ _ (c.in-Err.error ≡ Ended) c.args.sink.now
    c.decide.new.sink c.in_ok-solution-in-Err.ensures.same not
    (c.in-Err.ensures.taken (c.in_ok-join_if_bounded.ensures c.args.problem.now (c.in_ok-reduce.ensures st)) c.args.sink.now
    (took-nothing g.S.SolutionSink.takes c.args.problem.now c.args.sink.now (g.met.S.SolutionSink.takes_none c.args.sink.now)))
