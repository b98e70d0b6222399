use Rattle.std.proofs.Common.{refl, ap, arith}
use Rattle.varisat_prop.specs.View.{View, view_of}
use Rattle.varisat_prop.specs.QueueSteps.{parts_of}
use Rattle.varisat_prop.proofs.trails.TrailValues.{fits-node}
use Rattle.varisat_prop.proofs.trails.PropagateSteps.{keeps-refl, keeps-trans}
use Rattle.varisat_prop.proofs.pairs.BinaryPropagated.{implying-start, within-implied, implying-true, implying-conflict, assignable-implied, implying-new, implying-end}
use Rattle.varisat_prop.proofs.prop.binary.propagate_binary.Goals as goal

pub loop-entry-init : goal.loop-entry-init
loop-entry-init g c = record {
  implying = implying-start (view_of c.args.alloc.now c.args.binary.now c.args.assignment.now c.args.trail.now c.args.graph.now)
      c.args.lit c.requires.well c.requires.is_true;
  keeps = keeps-refl (parts_of c.args.alloc.now c.args.binary.now c.args.assignment.now c.args.trail.now c.args.graph.now);
}

pub lit_is_false-requires : goal.lit_is_false-requires
lit_is_false-requires g c = within-implied c.loop-entry.invariant.implying c.implied-entry-items.ensures c.loop-entry-test.true c.entry-item.is

pub lit_is_true-requires : goal.lit_is_true-requires
lit_is_true-requires g c = within-implied c.loop-entry.invariant.implying c.implied-entry-items.ensures c.loop-entry-test.true c.entry-item.is

pub enqueue_assignment-requires : goal.enqueue_assignment-requires
enqueue_assignment-requires g c =
    let s = view_of c.args.alloc.now c.args.binary.now c.loop-entry.assignment c.loop-entry.trail c.loop-entry.graph in
    let fits = fits-node s c.loop-entry.invariant.implying.propagates.well in
    record {
      assignable = assignable-implied c.loop-entry.invariant.implying c.implied-entry-items.ensures c.loop-entry-test.true c.entry-item.is
          (λ h. let b = c.if-lit_is_true.ensures.1 h in cc) (λ h. let b = c.if-lit_is_false.ensures.1 h in cc);
      level = omega (arith, fits.0);
      depth = fits.1;
    }

pub returns-then-lit_is_false-clause-ends : goal.returns-then-lit_is_false-clause-ends
returns-then-lit_is_false-clause-ends g c = implying-conflict c.loop-entry.invariant.implying c.implied-entry-items.ensures c.loop-entry-test.true
    c.entry-item.is c.not.ensures (c.if-lit_is_false.ensures.0 refl)

pub loop-entry-preserved-then-lit_is_true : goal.loop-entry-preserved-then-lit_is_true
loop-entry-preserved-then-lit_is_true g c = record {
  implying = implying-true c.loop-entry.invariant.implying c.implied-entry-items.ensures c.loop-entry-test.true c.entry-item.is
      (c.if-lit_is_true.ensures.0 refl);
  keeps = c.loop-entry.invariant.keeps;
}

pub loop-entry-preserved : goal.loop-entry-preserved
loop-entry-preserved g c =
    let enters = c.in_ok-enqueue_assignment.ensures in
    let view = enters.view c.args.alloc.now c.args.binary.now in
    record {
      implying = implying-new c.loop-entry.invariant.implying c.implied-entry-items.ensures c.loop-entry-test.true c.entry-item.is
          (λ h. let b = c.if-lit_is_true.ensures.1 h in cc) (λ h. let b = c.if-lit_is_false.ensures.1 h in cc) c.not-in-loop-entry.ensures view;
      keeps = keeps-trans c.loop-entry.invariant.keeps
          record { last = enters.last; head = ap (λ (v : View). v.queue_head) view; store = refl };
    }

pub returns-clause-ends : goal.returns-clause-ends
returns-clause-ends g c = implying-end c.loop-entry.invariant.implying c.implied-entry-items.ensures c.loop-entry-test.false
