use Rattle.std.proofs.Common.{get_or, Some, subst}
use Rattle.varisat_theory.specs.promises.Membership.{◌∈◌}
use Rattle.varisat_theory.proofs.clauses.Places.{∈-get_or}
use Rattle.varisat_plain.proofs.Scans.{refused, granted}
use Rattle.varisat_plain.proofs.ClauseStatuses.{Seen, seen_first, seen_again, seen_false, seen_end_none, seen_end_some}
use Rattle.varisat_plain.proofs.propagation.status_of.Goals as goal
use Rattle.varisat_plain.proofs.propagation.status_of.Goals.{then-not-holds+in-None, then-not-holds+in-Some+else-m-l, else-not-holds}

pub returns-then-m-l : goal.returns-then-m-l
returns-then-m-l c =
    let s : Seen c.args.known.now c.args.clause.now c.loop-l.l-index (Some c.in-Some.m) = rw c.in-Some.is at c.loop-l.invariant in (
      c.in-Some.m,
      get_or c.args.clause.now c.loop-l.l-index 0,
      s.0,
      ∈-get_or c.args.clause.now c.loop-l.l-index 0 c.loop-l-test.true,
      c.if-m-l.true,
      s.1,
      subst (λ x. x ∈ c.args.known.now → ⊥) c.opposite.ensures (refused _ c.holds.result c.if-not-holds.true c.holds.ensures),
    )

pub loop-l-preserved : goal.loop-l-preserved
loop-l-preserved c =
    elim c.if-not-holds.branch [
      | then-not-holds+in-None w ↦ seen_first c.args.known.now c.args.clause.now c.loop-l.l-index _ _ w.in-None.is w.left-is c.loop-l-test.true
          c.loop-l.invariant (subst (λ x. x ∈ c.args.known.now → ⊥) c.opposite.ensures (refused _ c.holds.result w.if-not-holds.true c.holds.ensures))
      | then-not-holds+in-Some+else-m-l w ↦ seen_again c.args.known.now c.args.clause.now c.loop-l.l-index w.in-Some.m _ _ w.in-Some.is w.left-is
          c.loop-l.invariant w.if-m-l.false
      | else-not-holds w ↦ seen_false c.args.known.now c.args.clause.now c.loop-l.l-index _ _ w.left-is c.loop-l.invariant
          (subst (λ x. x ∈ c.args.known.now) c.opposite.ensures (granted _ c.holds.result w.if-not-holds.false c.holds.ensures))
    ]

pub returns-in-None-left : goal.returns-in-None-left
returns-in-None-left c = seen_end_none c.args.known.now c.args.clause.now c.loop-l.l-index _ c.in-None-left.is c.loop-l-test.false c.loop-l.invariant

pub returns-in-Some-left : goal.returns-in-Some-left
returns-in-Some-left c = seen_end_some c.args.known.now c.args.clause.now c.loop-l.l-index _ c.in-Some-left.l c.in-Some-left.is c.loop-l-test.false
    c.loop-l.invariant
