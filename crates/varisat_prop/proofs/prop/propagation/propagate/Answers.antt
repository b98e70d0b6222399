use Rattle.std.proofs.Common.{◌≡◌, ◌≤◌, length, refl, subst, arith}
use Rattle.varisat_clause.specs.Stored.{literals_of}
use Rattle.varisat_clause.proofs.StoreSound.{is-sound}
use Rattle.varisat_prop.specs.View.{view_of, pairs_from}
use Rattle.varisat_prop.specs.Watches.{WatchesHoldTo, IsImpliedTo}
use Rattle.varisat_prop.proofs.trails.PropagateSteps.{propagates-refl}
use Rattle.varisat_prop.proofs.watching.LongVisited.{listed}
use Rattle.varisat_prop.proofs.watching.WatchesHold.{settled-complete, pairs-complete, complete-both}
use Rattle.varisat_prop.proofs.views.WellFormedChanges.{stored-kept}
use Rattle.varisat_prop.proofs.trails.PropagateQueue.{at-end, watched-enabled, watched-propagated}
use Rattle.varisat_prop.proofs.trails.NextLiteral.{next-taken, queue-more, queue-next, queue-shorter}
use Rattle.varisat_prop.proofs.prop.propagation.propagate.Goals as goal

pub enable_watchlists-requires-clause-sound : goal.enable_watchlists-requires-clause-sound
enable_watchlists-requires-clause-sound g c = is-sound c.args.alloc.now c.requires.well.sound

pub enable_watchlists-requires-clause-within : goal.enable_watchlists-requires-clause-within
enable_watchlists-requires-clause-within g c = λ d h l m.
    let s = view_of c.args.alloc.now c.args.binary.now c.args.assignment.now c.args.trail.now c.args.graph.now in
    let n = listed l (length s.values) (c.requires.well.in_range d (stored-kept s d h) l m) in
    let o = c.requires.propagated.lists in
    omega (arith, n, o)

pub enable_watchlists-requires-clause-distinct : goal.enable_watchlists-requires-clause-distinct
enable_watchlists-requires-clause-distinct g c = λ d h.
    let s = view_of c.args.alloc.now c.args.binary.now c.args.assignment.now c.args.trail.now c.args.graph.now in
    c.requires.well.distinct d (stored-kept s d h)

pub queue-init : goal.queue-init
queue-init g c =
    let s = view_of c.args.alloc.now c.args.binary.now c.args.assignment.now c.args.trail.now c.args.graph.now in
    let e = c.in_ok-enable_watchlists.ensures in
    record {
      propagates = propagates-refl s c.requires.well;
      watched = watched-enabled c.args.watchlists.now c.enable_watchlists.new.watchlists s c.requires.well c.requires.propagated e.enabled e.count
          e.same e.watching;
      last = refl;
      store = refl;
    }

pub propagate_lit-requires : goal.propagate_lit-requires
propagate_lit-requires g c = next-taken c.queue.invariant.propagates.well c.queue.invariant.watched c.prefetch_lists.ensures c.in-Some.ensures

pub queue-preserved : goal.queue-preserved
queue-preserved g c =
    let n = next-taken c.queue.invariant.propagates.well c.queue.invariant.watched c.prefetch_lists.ensures c.in-Some.ensures in
    let st = rw c.in-Ok.is at c.in_ok-propagate_lit.ensures.ends in
    queue-next c.pop_queue.new.self n c.in_ok-propagate_lit.ensures.goes c.pop_queue.ensures.head c.pop_queue.ensures.taken c.queue.invariant st

pub queue-smaller : goal.queue-smaller
queue-smaller g c =
    let n = next-taken c.queue.invariant.propagates.well c.queue.invariant.watched c.prefetch_lists.ensures c.in-Some.ensures in
    queue-shorter c.pop_queue.new.self n c.in_ok-propagate_lit.ensures.goes c.pop_queue.ensures.head c.pop_queue.ensures.taken

pub returns-in-Err-clause-propagates : goal.returns-in-Err-clause-propagates
returns-in-Err-clause-propagates g c = (queue-more c.queue.invariant c.in_ok-propagate_lit.ensures.goes).propagates

pub returns-in-Err-clause-propagated : goal.returns-in-Err-clause-propagated
returns-in-Err-clause-propagated g c = watched-propagated _ _ c.in_ok-propagate_lit.ensures.goes.watched

pub returns-clause-propagated : goal.returns-clause-propagated
returns-clause-propagated g c = watched-propagated _ _ c.queue.invariant.watched

pub returns-clause-ends : goal.returns-clause-ends
returns-clause-ends g c =
    let t = view_of c.queue.alloc c.args.binary.now c.queue.assignment c.queue.trail c.queue.graph in
    let past : length t.trail ≤ t.queue_head = at-end t.trail t.queue_head c.queue_head.result c.queue_head.ensures c.in_default.is in
    let w = c.queue.invariant.watched in
    let e : t.queue_head ≡ length t.trail = (let n = w.within in omega (arith, n, past)) in (
      complete-both (literals_of t.clauses) (pairs_from 0 t.binary) t.trail
          (settled-complete t c.queue.invariant.propagates.well (subst (WatchesHoldTo t) e w.settled))
          (pairs-complete t c.queue.invariant.propagates.well (subst (IsImpliedTo t) e w.implied)),
      e,
    )
