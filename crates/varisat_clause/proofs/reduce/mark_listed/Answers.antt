use Rattle.std.proofs.Common.{arith}
use Rattle.varisat_clause.proofs.LocalReduction.{element}
use Rattle.varisat_clause.proofs.MarkedClauses.{marking-list-none, marking-place, marking-list-same, marking-list-more, marking-list-done}
use Rattle.varisat_clause.proofs.reduce.mark_listed.Goals as goal

pub places-init : goal.places-init
places-init g c = marking-list-none c.args.tier c.args.alloc.now c.args.list.now c.requires.sound

pub mark_new-requires-clause-place : goal.mark_new-requires-clause-place
mark_new-requires-clause-place g c =
    let l = c.places.invariant.len in
    marking-place c.args.tier c.args.alloc.now c.places.alloc c.args.list.now c.places.list c.places.index c.places.count c.index-list-index.result
    c.requires c.places.invariant (omega (arith, l)) (element c.places.list c.places.index c.index-list-index.result (omega arith) c.index-list-index.is)

pub places-preserved-then-not-mark_new : goal.places-preserved-then-not-mark_new
places-preserved-then-not-mark_new g c =
    let l = c.places.invariant.len in
    marking-list-same c.args.tier c.args.alloc.now c.places.alloc c.args.list.now c.places.list c.places.index c.places.count
    c.index-list-index.result c.requires c.places.invariant (omega (arith, l))
    (element c.places.list c.places.index c.index-list-index.result (omega arith) c.index-list-index.is) c.mark_new.new.alloc
    (c.mark_new.ensures.kept c.if-not-mark_new.true) (cc (c.mark_new.ensures.new, c.if-not-mark_new.true))

pub places-preserved : goal.places-preserved
places-preserved g c =
    let l = c.places.invariant.len in
    marking-list-more c.args.tier c.args.alloc.now c.places.alloc c.args.list.now c.places.list c.places.index c.places.count
    c.index-list-index.result c.requires c.places.invariant (omega (arith, l))
    (element c.places.list c.places.index c.index-list-index.result (omega arith) c.index-list-index.is) c.mark_new.new.alloc
    (cc (c.mark_new.ensures.new, c.if-not-mark_new.false)) (c.mark_new.ensures.marked c.if-not-mark_new.false)

pub returns-clause-marks : goal.returns-clause-marks
returns-clause-marks g c =
    let l = c.places.invariant.len in
    marking-list-done c.args.tier c.args.alloc.now c.places.alloc c.args.list.now c.places.list c.places.index c.places.count c.requires
    (omega (arith, l)) c.places.invariant
