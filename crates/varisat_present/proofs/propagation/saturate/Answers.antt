use Rattle.std.proofs.Common.{arith}
use Rattle.varisat_present.specs.Places.{present}
use Rattle.varisat_present.proofs.KnownGrowth.{grows_on, saturates_early, saturates_found, saturates_end, less_left}
use Rattle.varisat_present.proofs.propagation.saturate.Goals as goal

pub rounds-init : goal.rounds-init
rounds-init g c = c.in_ok-is_refuted.ensures.grows

pub returns-then-is_refuted : goal.returns-then-is_refuted
returns-then-is_refuted g c =
    saturates_early (present c.args.places.now) c.args.known.now c.take_newest.new.known c.in_ok-is_refuted.is_refuted c.if-is_refuted.true
    c.in_ok-is_refuted.ensures

pub returns-then-is_false : goal.returns-then-is_false
returns-then-is_false g c =
    saturates_found (present c.args.places.now) c.args.known.now c.rounds.known c.pass.new.known c.rounds.invariant
    c.in_ok-is_false.ensures.finds.grows (c.in_ok-is_false.ensures.finds.conflict c.if-is_false.true)

pub returns-then-len-count : goal.returns-then-len-count
returns-then-len-count g c =
    saturates_end (present c.args.places.now) c.args.known.now c.rounds.known c.pass.new.known c.rounds.invariant c.in_ok-is_false.ensures.finds.grows
    (c.in_ok-is_false.ensures.rest c.if-is_false.false) (omega (arith, c.if-len-count.true, c.len-count.ensures, c.len.ensures))

pub returns-then-found : goal.returns-then-found
returns-then-found g c =
    saturates_found (present c.args.places.now) c.args.known.now c.pass.new.known c.propagate.new.known
    (grows_on (present c.args.places.now) c.args.known.now c.rounds.known c.pass.new.known c.rounds.invariant c.in_ok-is_false.ensures.finds.grows)
    c.in_ok-found.ensures.grows (c.in_ok-found.ensures.conflict c.if-found.true)

pub rounds-preserved : goal.rounds-preserved
rounds-preserved g c =
    grows_on (present c.args.places.now) c.args.known.now c.pass.new.known c.propagate.new.known
    (grows_on (present c.args.places.now) c.args.known.now c.rounds.known c.pass.new.known c.rounds.invariant c.in_ok-is_false.ensures.finds.grows)
    c.in_ok-found.ensures.grows

pub rounds-smaller : goal.rounds-smaller
rounds-smaller g c =
    less_left (present c.args.places.now) c.rounds.known c.pass.new.known c.propagate.new.known c.in_ok-is_false.ensures.finds.grows
    (c.in_ok-is_false.ensures.rest c.if-is_false.false)
    (λ e. c.if-len-count.false (omega (arith, e, c.len-count.ensures, c.len.ensures))) c.in_ok-found.ensures.grows
