use Rattle.std.proofs.Common.{◌≡◌, true, false}
use Rattle.std.proofs.lemmas.Bool.{not-true, not-false}
use Rattle.varisat_maxsat.proofs.Improving.{decided, not-decided}
use Rattle.varisat_maxsat.proofs.Below.{found-satisfiable}
use Rattle.varisat_maxsat.proofs.Handing.{passes-on, took-passed}
use Rattle.varisat_maxsat.proofs.solving.decide.Goals as goal

pub returns-then-not-found-clause-ends : goal.returns-then-not-found-clause-ends
returns-then-not-found-clause-ends g c = λ st h.
    let e : c.in_ok-found.found ≡ false = first_of (assumption c.if-not-found.true, search (not-true, c.if-not-found.true)) in
    not-decided c.args.problem.now c.search_lightly.new.self c.in_ok-found.found e (c.in_ok-found.ensures c.args.problem.now st)

pub returns-in_err-keep_model-clause-best : goal.returns-in_err-keep_model-clause-best
returns-in_err-keep_model-clause-best g c =
    let e : c.in_ok-found.found ≡ true = first_of (assumption c.if-not-found.false, search (not-false, c.if-not-found.false)) in λ st h.
    c.keep_model.ensures.best (decided c.args.problem.now c.search_lightly.new.self c.in_ok-found.found e (c.in_ok-found.ensures c.args.problem.now st)).1 h

pub returns-in_err-keep_model-clause-taken : goal.returns-in_err-keep_model-clause-taken
returns-in_err-keep_model-clause-taken g c =
    let e : c.in_ok-found.found ≡ true = first_of (assumption c.if-not-found.false, search (not-false, c.if-not-found.false)) in λ st x b.
    took-passed c.from_residual-in_err-keep_model.result c.in_err-keep_model.field-0.0 c.from_residual-in_err-keep_model.ensures (c.in_err-keep_model.ensures.taken (decided c.args.problem.now c.search_lightly.new.self c.in_ok-found.found e (c.in_ok-found.ensures c.args.problem.now st)).1 x b)

pub returns-then-is_countable : goal.returns-then-is_countable
returns-then-is_countable g c =
    let e : c.in_ok-found.found ≡ true = first_of (assumption c.if-not-found.false, search (not-false, c.if-not-found.false)) in record {
      ends = λ st h.
          let d = decided c.args.problem.now c.search_lightly.new.self c.in_ok-found.found e (c.in_ok-found.ensures c.args.problem.now st) in
          c.in_ok-improve.ensures.ends d.0 (c.keep_model.ensures.best d.1 h);
      best = λ st h.
          let d = decided c.args.problem.now c.search_lightly.new.self c.in_ok-found.found e (c.in_ok-found.ensures c.args.problem.now st) in
          c.improve.ensures.best d.0 (c.keep_model.ensures.best d.1 h);
      taken = λ st x b.
          let d = decided c.args.problem.now c.search_lightly.new.self c.in_ok-found.found e (c.in_ok-found.ensures c.args.problem.now st) in
          c.in_ok-improve.ensures.taken d.0 x (c.in_ok-keep_model.ensures.taken d.1 x b);
      reason = tt;
    }

pub returns-in_err-improve-clause-taken : goal.returns-in_err-improve-clause-taken
returns-in_err-improve-clause-taken g c =
    let e : c.in_ok-found.found ≡ true = first_of (assumption c.if-not-found.false, search (not-false, c.if-not-found.false)) in λ st x b.
    let d = decided c.args.problem.now c.search_lightly.new.self c.in_ok-found.found e (c.in_ok-found.ensures c.args.problem.now st) in
    took-passed c.from_residual-in_err-improve.result c.in_err-improve.field-0.0 c.from_residual-in_err-improve.ensures (c.in_err-improve.ensures.taken d.0 x (c.in_ok-keep_model.ensures.taken d.1 x b))

pub returns-in_err-improve-clause-best : goal.returns-in_err-improve-clause-best
returns-in_err-improve-clause-best g c =
    let e : c.in_ok-found.found ≡ true = first_of (assumption c.if-not-found.false, search (not-false, c.if-not-found.false)) in λ st h.
    let d = decided c.args.problem.now c.search_lightly.new.self c.in_ok-found.found e (c.in_ok-found.ensures c.args.problem.now st) in
    c.improve.ensures.best d.0 (c.keep_model.ensures.best d.1 h)

pub returns-in_err-ended-clause-taken : goal.returns-in_err-ended-clause-taken
returns-in_err-ended-clause-taken g c =
    let e : c.in_ok-found.found ≡ true = first_of (assumption c.if-not-found.false, search (not-false, c.if-not-found.false)) in λ st x b.
    let d = decided c.args.problem.now c.search_lightly.new.self c.in_ok-found.found e (c.in_ok-found.ensures c.args.problem.now st) in
    took-passed c.from_residual-in_err-ended.result c.in_err-ended.field-0.0 c.from_residual-in_err-ended.ensures (c.in_err-ended.ensures.taken d.0 x (c.in_ok-keep_model.ensures.taken d.1 x b))

pub returns-in_err-ended-clause-reason : goal.returns-in_err-ended-clause-reason
returns-in_err-ended-clause-reason g c =
    let e : c.in_ok-found.found ≡ true = first_of (assumption c.if-not-found.false, search (not-false, c.if-not-found.false)) in
    passes-on c.from_residual-in_err-ended.result c.in_err-ended.field-0.0 _ c.from_residual-in_err-ended.ensures (λ over st.
    let d = decided c.args.problem.now c.search_lightly.new.self c.in_ok-found.found e (c.in_ok-found.ensures c.args.problem.now st) in
    (found-satisfiable c.args.problem.now c.search_lightly.new.self d.1, c.in_err-ended.ensures.reason over d.0))

pub returns-in_err-ended-clause-best : goal.returns-in_err-ended-clause-best
returns-in_err-ended-clause-best g c =
    let e : c.in_ok-found.found ≡ true = first_of (assumption c.if-not-found.false, search (not-false, c.if-not-found.false)) in λ st h.
    let d = decided c.args.problem.now c.search_lightly.new.self c.in_ok-found.found e (c.in_ok-found.ensures c.args.problem.now st) in
    c.descend.ensures.best d.0 (c.keep_model.ensures.best d.1 h)

pub returns : goal.returns
returns g c =
    let e : c.in_ok-found.found ≡ true = first_of (assumption c.if-not-found.false, search (not-false, c.if-not-found.false)) in record {
      ends = λ st h.
          let d = decided c.args.problem.now c.search_lightly.new.self c.in_ok-found.found e (c.in_ok-found.ensures c.args.problem.now st) in
          c.in_ok-ended.ensures.ends d.0 (c.keep_model.ensures.best d.1 h);
      best = λ st h.
          let d = decided c.args.problem.now c.search_lightly.new.self c.in_ok-found.found e (c.in_ok-found.ensures c.args.problem.now st) in
          c.descend.ensures.best d.0 (c.keep_model.ensures.best d.1 h);
      taken = λ st x b.
          let d = decided c.args.problem.now c.search_lightly.new.self c.in_ok-found.found e (c.in_ok-found.ensures c.args.problem.now st) in
          c.in_ok-ended.ensures.taken d.0 x (c.in_ok-keep_model.ensures.taken d.1 x b);
      reason = tt;
    }
