use Rattle.std.proofs.Common.{sym, subst}
use Rattle.varisat_theory.specs.promises.Membership.{SameSet}
use Rattle.varisat_plain.proofs.Scans.{refused, granted, list_at, absent_more, absent_all}
use Rattle.varisat_plain.proofs.checker.place_of.Goals as goal

pub returns-then-is_same_set : goal.returns-then-is_same_set
returns-then-is_same_set c = (
  c.loop-i-test.true,
  subst (λ x. SameSet x c.args.clause.now)
      (sym (list_at c.args.present.now c.loop-i.i c.index-present-i.result c.deref.result.now c.loop-i-test.true c.index-present-i.is
      c.deref.ensures.value)) (granted _ c.is_same_set.result c.if-is_same_set.true c.is_same_set.ensures),
)

pub loop-i-preserved : goal.loop-i-preserved
loop-i-preserved c =
    absent_more c.args.present.now c.loop-i.i c.index-present-i.result c.deref.result.now c.args.clause.now c.loop-i-test.true c.index-present-i.is
    c.deref.ensures.value (refused _ c.is_same_set.result c.if-is_same_set.false c.is_same_set.ensures) c.loop-i.invariant

pub returns : goal.returns
returns c = absent_all c.args.present.now c.loop-i.i c.args.clause.now c.loop-i-test.false c.loop-i.invariant
