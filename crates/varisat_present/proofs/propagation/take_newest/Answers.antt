use Rattle.std.proofs.Common.{Bool, subst}
use Rattle.varisat_present.specs.Places.{present}
use Rattle.varisat_present.specs.Knowing.{FindsConflict}
use Rattle.varisat_present.proofs.PlacedClauses.{at_in}
use Rattle.varisat_present.proofs.KnownGrowth.{passed_finds, finds_on}
use Rattle.varisat_present.proofs.propagation.take_newest.Given.{Over}
use Rattle.varisat_present.proofs.propagation.take_newest.Goals.{In_ok-is_false}
use Rattle.varisat_present.proofs.propagation.take_newest.Goals as goal

-- what the newest clause comes to
found : (g : Over) (c : In_ok-is_false g) → FindsConflict (present c.args.places.now) c.args.known.now c.in_ok-is_false.is_false c.pass_clause.new.known
found g c =
    passed_finds (present c.args.places.now) c.args.known.now c.pass_clause.new.known c.in-Some.clause.now c.in_ok-is_false.is_false c.requires
    (at_in c.args.places.now _ c.in-Some.clause.now c.in-Some.ensures) c.in_ok-is_false.ensures

pub returns-then-is_false : goal.returns-then-is_false
returns-then-is_false g c =
    subst (λ (b : Bool). FindsConflict (present c.args.places.now) c.args.known.now b c.pass_clause.new.known) c.if-is_false.true
    (found g (goal.at.returns-then-is_false g c).In_ok-is_false)

pub propagate-requires : goal.propagate-requires
propagate-requires g c = (found g (goal.at.propagate-requires g c).In_ok-is_false).grows.no_clash

pub returns : goal.returns
returns g c =
    finds_on (present c.args.places.now) c.args.known.now c.pass_clause.new.known c.propagate.new.known _
    (found g (goal.at.returns g c).In_ok-is_false).grows c.in_ok-found.ensures
