use Rattle.std.proofs.Common.{◌≡◌, true, false}
use Rattle.std.proofs.lemmas.Bool.{not-true, not-false}
use Rattle.varisat_maxsat.proofs.Improving.{best-met, improved, not-improved}
use Rattle.varisat_maxsat.proofs.Handing.{took-unended, took-passed}
use Rattle.varisat_maxsat.proofs.solving.improve.Goals as goal

pub turns-init : goal.turns-init
turns-init g c = record { ready = λ st. c.in_ok-plan.ensures c.args.problem.now st; best = λ st h. h; taken = λ st x b. b }

pub returns-then-not-found-clause-ends : goal.returns-then-not-found-clause-ends
returns-then-not-found-clause-ends g c = λ st h.
    let e : c.in_ok-found.found ≡ false = first_of (assumption c.if-not-found.true, search (not-true, c.if-not-found.true)) in
    best-met c.args.problem.now c.search_below.new.self _
    (not-improved c.args.problem.now c.search_below.new.self c.in_ok-found.found e
    (c.in_ok-found.ensures c.args.problem.now (c.in_ok-forbid_ceiling.ensures c.args.problem.now (c.turns.invariant.ready st))))
    c.in_ok-ensure_met.ensures (c.turns.invariant.best st h)

pub returns-in_err-keep_model-clause-best : goal.returns-in_err-keep_model-clause-best
returns-in_err-keep_model-clause-best g c =
    let e : c.in_ok-found.found ≡ true = first_of (assumption c.if-not-found.false, search (not-false, c.if-not-found.false)) in λ st h.
    c.keep_model.ensures.best (improved c.args.problem.now c.search_below.new.self c.in_ok-found.found e
    (c.in_ok-found.ensures c.args.problem.now (c.in_ok-forbid_ceiling.ensures c.args.problem.now (c.turns.invariant.ready st)))).1 (c.turns.invariant.best st h)

pub returns-in_err-keep_model-clause-taken : goal.returns-in_err-keep_model-clause-taken
returns-in_err-keep_model-clause-taken g c =
    let e : c.in_ok-found.found ≡ true = first_of (assumption c.if-not-found.false, search (not-false, c.if-not-found.false)) in λ st x b.
    took-passed c.from_residual-in_err-keep_model.result c.in_err-keep_model.field-0.0 c.from_residual-in_err-keep_model.ensures (c.in_err-keep_model.ensures.taken (improved c.args.problem.now c.search_below.new.self c.in_ok-found.found e
    (c.in_ok-found.ensures c.args.problem.now (c.in_ok-forbid_ceiling.ensures c.args.problem.now (c.turns.invariant.ready st)))).1 x
    (c.turns.invariant.taken st x b))

pub returns-in_err-lower_ceiling-clause-best : goal.returns-in_err-lower_ceiling-clause-best
returns-in_err-lower_ceiling-clause-best g c =
    let e : c.in_ok-found.found ≡ true = first_of (assumption c.if-not-found.false, search (not-false, c.if-not-found.false)) in λ st h.
    c.keep_model.ensures.best (improved c.args.problem.now c.search_below.new.self c.in_ok-found.found e
    (c.in_ok-found.ensures c.args.problem.now (c.in_ok-forbid_ceiling.ensures c.args.problem.now (c.turns.invariant.ready st)))).1 (c.turns.invariant.best st h)

pub returns-in_err-lower_ceiling-clause-taken : goal.returns-in_err-lower_ceiling-clause-taken
returns-in_err-lower_ceiling-clause-taken g c =
    let e : c.in_ok-found.found ≡ true = first_of (assumption c.if-not-found.false, search (not-false, c.if-not-found.false)) in λ st x b.
    took-unended c.from_residual-in_err-lower_ceiling.result c.in_err-lower_ceiling.field-0.0 c.from_residual-in_err-lower_ceiling.ensures
    c.in_err-lower_ceiling.ensures.limit.1 (c.in_ok-keep_model.ensures.taken (improved c.args.problem.now c.search_below.new.self c.in_ok-found.found e
    (c.in_ok-found.ensures c.args.problem.now (c.in_ok-forbid_ceiling.ensures c.args.problem.now (c.turns.invariant.ready st)))).1 x
    (c.turns.invariant.taken st x b))

pub turns-preserved : goal.turns-preserved
turns-preserved g c =
    let e : c.in_ok-found.found ≡ true = first_of (assumption c.if-not-found.false, search (not-false, c.if-not-found.false)) in record {
      ready = λ st. c.lower_ceiling.ensures.keeps c.args.problem.now (improved c.args.problem.now c.search_below.new.self c.in_ok-found.found e
          (c.in_ok-found.ensures c.args.problem.now (c.in_ok-forbid_ceiling.ensures c.args.problem.now (c.turns.invariant.ready st)))).0;
      best = λ st h. c.keep_model.ensures.best (improved c.args.problem.now c.search_below.new.self c.in_ok-found.found e
          (c.in_ok-found.ensures c.args.problem.now (c.in_ok-forbid_ceiling.ensures c.args.problem.now (c.turns.invariant.ready st)))).1
          (c.turns.invariant.best st h);
      taken = λ st x b. c.in_ok-keep_model.ensures.taken (improved c.args.problem.now c.search_below.new.self c.in_ok-found.found e
          (c.in_ok-found.ensures c.args.problem.now (c.in_ok-forbid_ceiling.ensures c.args.problem.now (c.turns.invariant.ready st)))).1 x
          (c.turns.invariant.taken st x b);
    }
