use Rattle.std.proofs.Common.{get_or, subst}
use Rattle.varisat_theory.specs.promises.Membership.{◌∈◌}
use Rattle.varisat_theory.proofs.clauses.Places.{∈-get_or}
use Rattle.varisat_plain.proofs.Scans.{answers_true, answers_false, refused, granted, clash_more, clash_none}
use Rattle.varisat_plain.proofs.propagation.has_clash.Goals as goal

pub returns-then-holds : goal.returns-then-holds
returns-then-holds c =
    answers_true _ (
      get_or c.args.known.now c.loop-l.l-index 0,
      ∈-get_or c.args.known.now c.loop-l.l-index 0 c.loop-l-test.true,
      subst
          (λ x. x ∈ c.args.known.now) c.opposite.ensures (granted _ c.holds.result c.if-holds.true c.holds.ensures),
    )

pub loop-l-preserved : goal.loop-l-preserved
loop-l-preserved c =
    clash_more c.args.known.now c.loop-l.l-index c.opposite.result c.opposite.ensures
    (refused _ c.holds.result c.if-holds.false c.holds.ensures) c.loop-l.invariant

pub returns : goal.returns
returns c = answers_false _ (clash_none c.args.known.now c.loop-l.l-index c.loop-l-test.false c.loop-l.invariant)
