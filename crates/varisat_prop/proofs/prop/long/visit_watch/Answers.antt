use Rattle.std.proofs.Common.{ap, arith}
use Rattle.varisat_clause.proofs.StoreSound.{is-sound}
use Rattle.varisat_prop.specs.View.{View}
use Rattle.varisat_prop.specs.QueueSteps.{parts_of, view_of_parts}
use Rattle.varisat_prop.proofs.trails.TrailValues.{fits-node}
use Rattle.varisat_prop.proofs.watching.LongVisited.{watch-long, watch-range, watch-false, watch-by, code-true, code-false, other-listed, code-other, code-assignable, code-implied}
use Rattle.varisat_prop.proofs.prop.long.visit_watch.Goals as goal

pub reorder_clause-requires : goal.reorder_clause-requires
reorder_clause-requires g c =
    let p = parts_of c.args.alloc.now c.args.binary.now c.args.assignment.now c.args.trail.now c.args.graph.now in
    record {
      sound = is-sound p.store c.requires.well.sound;
      place = c.requires.place;
      long = watch-long p c.requires;
      within = watch-range p c.requires;
      is_false = watch-false p c.requires c.not.ensures;
      watched = watch-by p c.requires c.not.ensures;
    }

pub add_watch-requires : goal.add_watch-requires
add_watch-requires g c =
    let p = parts_of c.args.alloc.now c.args.binary.now c.args.assignment.now c.args.trail.now c.args.graph.now in
    other-listed p c.requires c.not.ensures c.in-Other.ensures c.not-in-Other.ensures

pub enqueue_assignment-requires : goal.enqueue_assignment-requires
enqueue_assignment-requires g c =
    let p = parts_of c.args.alloc.now c.args.binary.now c.args.assignment.now c.args.trail.now c.args.graph.now in
    let fits = fits-node (view_of_parts p) c.requires.well in
    record { assignable = code-assignable p c.requires c.not.ensures c.in-Implied.ensures; level = omega (arith, fits.0); depth = fits.1 }

pub returns-in-True : goal.returns-in-True
returns-in-True g c =
    let p = parts_of c.args.alloc.now c.args.binary.now c.args.assignment.now c.args.trail.now c.args.graph.now in
    code-true p c.requires c.not.ensures c.in-True.ensures

pub returns-in-False : goal.returns-in-False
returns-in-False g c =
    let p = parts_of c.args.alloc.now c.args.binary.now c.args.assignment.now c.args.trail.now c.args.graph.now in
    code-false p c.requires c.not.ensures c.in-False.ensures

pub returns-in_ok-add_watch-in-Other : goal.returns-in_ok-add_watch-in-Other
returns-in_ok-add_watch-in-Other g c =
    let p = parts_of c.args.alloc.now c.args.binary.now c.args.assignment.now c.args.trail.now c.args.graph.now in
    code-other p c.requires c.not.ensures c.in-Other.ensures c.not-in-Other.ensures c.in_ok-add_watch-in-Other.ensures

pub returns-in_ok-enqueue_assignment-in-Implied : goal.returns-in_ok-enqueue_assignment-in-Implied
returns-in_ok-enqueue_assignment-in-Implied g c =
    let p = parts_of c.args.alloc.now c.args.binary.now c.args.assignment.now c.args.trail.now c.args.graph.now in
    let enters = c.in_ok-enqueue_assignment-in-Implied.ensures in
    let view = enters.view c.reorder_clause.new.alloc c.args.binary.now in
    code-implied p c.requires c.not.ensures c.in-Implied.ensures
    (parts_of c.reorder_clause.new.alloc c.args.binary.now c.enqueue_assignment.new.assignment c.enqueue_assignment.new.trail
    c.enqueue_assignment.new.impl_graph) view
    record { last = enters.last; head = ap (λ (v : View). v.queue_head) view; store = c.in-Implied.ensures.store }
