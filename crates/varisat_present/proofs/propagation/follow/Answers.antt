use Rattle.std.proofs.Common.{Bool, subst}
use Rattle.varisat_present.specs.Places.{present}
use Rattle.varisat_present.specs.Knowing.{FindsConflict}
use Rattle.varisat_present.proofs.PlacedClauses.{at_in}
use Rattle.varisat_present.proofs.KnownGrowth.{grows_none, grows_on, finds_no_more, finds_on, passed_finds}
use Rattle.varisat_present.proofs.propagation.follow.Given.{Over}
use Rattle.varisat_present.proofs.propagation.follow.Goals.{In_ok-is_false}
use Rattle.varisat_present.proofs.propagation.follow.Goals as goal

-- what the clause comes to
found : (g : Over) (c : In_ok-is_false g) → FindsConflict (present c.args.places.now) c.loop-place.known c.in_ok-is_false.is_false c.pass_clause.new.known
found g c =
    passed_finds (present c.args.places.now) c.loop-place.known c.pass_clause.new.known c.in-Some.clause.now c.in_ok-is_false.is_false
    c.loop-place.invariant.no_clash (at_in c.args.places.now _ c.in-Some.clause.now c.in-Some.ensures) c.in_ok-is_false.ensures

pub loop-place-init : goal.loop-place-init
loop-place-init g c = grows_none (present c.args.places.now) c.args.known.now c.requires

pub returns-then-is_false : goal.returns-then-is_false
returns-then-is_false g c =
    finds_on (present c.args.places.now) c.args.known.now c.loop-place.known c.pass_clause.new.known _ c.loop-place.invariant
    (subst (λ (b : Bool). FindsConflict (present c.args.places.now) c.loop-place.known b c.pass_clause.new.known) c.if-is_false.true
    (found g (goal.at.returns-then-is_false g c).In_ok-is_false))

pub loop-place-preserved : goal.loop-place-preserved
loop-place-preserved g c =
    grows_on (present c.args.places.now) c.args.known.now c.loop-place.known c.pass_clause.new.known c.loop-place.invariant
    (found g (goal.at.loop-place-preserved g c).In_ok-is_false).grows

pub returns : goal.returns
returns g c = finds_no_more (present c.args.places.now) c.args.known.now c.loop-place.known c.loop-place.invariant
