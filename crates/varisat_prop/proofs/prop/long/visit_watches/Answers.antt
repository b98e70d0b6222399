use Rattle.std.proofs.Common.{◌<◌, ◌≤◌, length, length-set, refl, arith}
use Rattle.varisat_prop.specs.QueueSteps.{parts_of}
use Rattle.varisat_prop.proofs.watching.LongVisited.{blocking-range, code-blocking}
use Rattle.varisat_prop.proofs.trails.NextLiteral.{next-after}
use Rattle.varisat_prop.proofs.watching.LongListed.{visiting-start, is-watch, visiting-dropped, visiting-kept, visiting-false, visiting-done, visiting-settled}
use Rattle.varisat_prop.proofs.prop.long.visit_watches.Goals as goal
use Rattle.varisat_prop.proofs.prop.long.visit_watches.Goals.{in-Dropped, in-Keep}

pub loop-read-init : goal.loop-read-init
loop-read-init g c =
    let p = parts_of c.args.alloc.now c.args.binary.now c.args.assignment.now c.args.trail.now c.args.graph.now in
    visiting-start p c.args.watchlists.now c.args.lit c.args.watches.now c.requires.inside c.requires.next

pub lit_is_true-requires : goal.lit_is_true-requires
lit_is_true-requires g c =
    let inside : c.loop-read.read < length c.loop-read.watches = c.loop-read-test.true in
    let p = parts_of c.loop-read.alloc c.args.binary.now c.loop-read.assignment c.loop-read.trail c.loop-read.graph in
    blocking-range p (is-watch c.loop-read.invariant inside c.index-watches-read.is)

pub loop-read-preserved-then-lit_is_true : goal.loop-read-preserved-then-lit_is_true
loop-read-preserved-then-lit_is_true g c =
    let inside : c.loop-read.read < length c.loop-read.watches = c.loop-read-test.true in
    let p = parts_of c.loop-read.alloc c.args.binary.now c.loop-read.assignment c.loop-read.trail c.loop-read.graph in
    visiting-kept c.loop-read.invariant inside c.index-watches-read.is
    (code-blocking p (is-watch c.loop-read.invariant inside c.index-watches-read.is) (c.if-lit_is_true.ensures.0 refl)) refl

pub visit_watch-requires : goal.visit_watch-requires
visit_watch-requires g c =
    let inside : c.loop-read.read < length c.loop-read.watches = c.loop-read-test.true in
    is-watch c.loop-read.invariant inside c.index-watches-read.is

pub loop-read-preserved : goal.loop-read-preserved
loop-read-preserved g c =
    let inside : c.loop-read.read < length c.loop-read.watches = c.loop-read-test.true in
    elim c.match-branch-2.branch [
      | in-Dropped k ↦ rw (k.watches-is, k.write-is)
          (visiting-dropped c.loop-read.invariant inside c.index-watches-read.is c.in_ok-visit_watch.ensures k.in-Dropped.is)
      | in-Keep k ↦ rw (k.watches-is, k.write-is) (visiting-kept c.loop-read.invariant inside c.index-watches-read.is c.in_ok-visit_watch.ensures k.in-Keep.is)
    ]

pub returns-in-Conflicting-clause-propagates : goal.returns-in-Conflicting-clause-propagates
returns-in-Conflicting-clause-propagates g c =
    let inside : c.loop-read.read < length c.loop-read.watches = c.loop-read-test.true in
    (visiting-false c.loop-read.invariant inside c.index-watches-read.is c.in_ok-visit_watch.ensures c.in-Conflicting.is c.close_gap-kept.ensures.kept).0.propagates

pub returns-in-Conflicting-clause-keeps : goal.returns-in-Conflicting-clause-keeps
returns-in-Conflicting-clause-keeps g c =
    let inside : c.loop-read.read < length c.loop-read.watches = c.loop-read-test.true in
    (visiting-false c.loop-read.invariant inside c.index-watches-read.is c.in_ok-visit_watch.ensures c.in-Conflicting.is c.close_gap-kept.ensures.kept).0.keeps

pub returns-in-Conflicting-clause-next : goal.returns-in-Conflicting-clause-next
returns-in-Conflicting-clause-next g c =
    let inside : c.loop-read.read < length c.loop-read.watches = c.loop-read-test.true in
    next-after
    (visiting-false c.loop-read.invariant inside c.index-watches-read.is c.in_ok-visit_watch.ensures c.in-Conflicting.is c.close_gap-kept.ensures.kept).0
    c.requires.next

pub returns-in-Conflicting-clause-ends : goal.returns-in-Conflicting-clause-ends
returns-in-Conflicting-clause-ends g c =
    let inside : c.loop-read.read < length c.loop-read.watches = c.loop-read-test.true in
    (visiting-false c.loop-read.invariant inside c.index-watches-read.is c.in_ok-visit_watch.ensures c.in-Conflicting.is c.close_gap-kept.ensures.kept).1

pub returns-clause-propagates : goal.returns-clause-propagates
returns-clause-propagates g c =
    let done : length c.loop-read.watches ≤ c.loop-read.read = c.loop-read-test.false in
    (visiting-done c.loop-read.invariant done refl).propagates

pub returns-clause-keeps : goal.returns-clause-keeps
returns-clause-keeps g c =
    let done : length c.loop-read.watches ≤ c.loop-read.read = c.loop-read-test.false in
    (visiting-done c.loop-read.invariant done refl).keeps

pub returns-clause-next : goal.returns-clause-next
returns-clause-next g c =
    let done : length c.loop-read.watches ≤ c.loop-read.read = c.loop-read-test.false in
    next-after (visiting-done c.loop-read.invariant done refl) c.requires.next

pub returns-clause-ends : goal.returns-clause-ends
returns-clause-ends g c =
    let done : length c.loop-read.watches ≤ c.loop-read.read = c.loop-read-test.false in
    visiting-settled c.loop-read.invariant done

pub returns-in-Conflicting-clause-within : goal.returns-in-Conflicting-clause-within
returns-in-Conflicting-clause-within g c =
    let o = c.loop-read.invariant.order in
    let n = c.loop-read.auto.watches in
    let m = length-set c.loop-read.watches c.loop-read.write (record { cref = c.index-watches-read.result.cref; blocking = c.in-Conflicting.blocking }) in
    omega (arith, o, n, m, c.loop-read-test.true, c.close_gap-kept.ensures.left)
