use Rattle.std.proofs.Common.{Bool, subst, take, arith}
use Rattle.varisat_present.specs.Places.{present}
use Rattle.varisat_present.specs.Knowing.{IsPassed}
use Rattle.varisat_present.proofs.PlacedClauses.{at_in, present_more, present_same, present_all}
use Rattle.varisat_present.proofs.KnownGrowth.{round_start, round_same, round_on, round_false, round_end}
use Rattle.varisat_present.proofs.QuietPairs.{round_quiet}
use Rattle.varisat_present.proofs.propagation.pass.Goals as goal

pub loop-place-init : goal.loop-place-init
loop-place-init g c = round_start (present c.args.places.now) c.args.known.now c.requires.no_clash

pub loop-place-preserved-in-None : goal.loop-place-preserved-in-None
loop-place-preserved-in-None g c =
    round_same (present c.args.places.now) c.args.known.now c.loop-place.known (present (take c.loop-place.place c.args.places.now)) _
    (present_same c.args.places.now c.loop-place.place c.in-None.ensures) c.loop-place.invariant

pub loop-place-preserved-then-is_quiet_at : goal.loop-place-preserved-then-is_quiet_at
loop-place-preserved-then-is_quiet_at g c =
    round_quiet c.args.places.now c.args.ones.now c.args.others.now c.args.known.now c.loop-place.known c.loop-place.place c.requires.ones c.requires.others
    (c.is_quiet_at.ensures c.if-is_quiet_at.true) c.loop-place.invariant

pub returns-then-is_false : goal.returns-then-is_false
returns-then-is_false g c =
    round_false (present c.args.places.now) c.args.known.now c.loop-place.known c.pass_clause.new.known
    (present (take c.loop-place.place c.args.places.now)) c.in-Some.clause.now
    (at_in c.args.places.now c.loop-place.place c.in-Some.clause.now c.in-Some.ensures) c.loop-place.invariant
    (subst (λ (b : Bool). IsPassed c.in-Some.clause.now c.loop-place.known b c.pass_clause.new.known) c.if-is_false.true c.in_ok-is_false.ensures)

pub loop-place-preserved : goal.loop-place-preserved
loop-place-preserved g c =
    round_on (present c.args.places.now) c.args.known.now c.loop-place.known c.pass_clause.new.known
    (present (take c.loop-place.place c.args.places.now)) _ c.in-Some.clause.now
    (at_in c.args.places.now c.loop-place.place c.in-Some.clause.now c.in-Some.ensures)
    (present_more c.args.places.now c.loop-place.place c.in-Some.clause.now c.in-Some.ensures) c.loop-place.invariant
    (subst (λ (b : Bool). IsPassed c.in-Some.clause.now c.loop-place.known b c.pass_clause.new.known) c.if-is_false.false c.in_ok-is_false.ensures)

pub returns : goal.returns
returns g c =
    round_end (present c.args.places.now) c.args.known.now c.loop-place.known (present (take c.loop-place.place c.args.places.now))
    (present_all c.args.places.now c.loop-place.place (omega (arith, c.loop-place-test.false))) c.loop-place.invariant
