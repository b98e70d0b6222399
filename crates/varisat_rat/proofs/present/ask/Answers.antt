use Rattle.std.proofs.Common.{Bool, subst}
use Rattle.varisat_present.specs.Places.{present}
use Rattle.varisat_present.specs.Knowing.{TakesBase}
use Rattle.varisat_present.proofs.KnownGrowth.{saturates_early, saturates_on}
use Rattle.varisat_rat.proofs.KeptLiterals.{asks_clash, asks_saturated}
use Rattle.varisat_rat.proofs.present.ask.Goals as goal

pub returns-then-clashes : goal.returns-then-clashes
returns-then-clashes g c =
    asks_clash (present c.args.places.now) c.args.known.now c.args.base.now c.assume.new.known c.requires.implied
    (subst (λ (b : Bool). TakesBase c.args.known.now c.args.base.now b c.assume.new.known) c.if-clashes.true c.in_ok-clashes.ensures)

pub returns-then-conflicts : goal.returns-then-conflicts
returns-then-conflicts g c =
    asks_saturated (present c.args.places.now) c.args.known.now c.args.base.now c.assume.new.known c.propagate.new.known _ c.requires.implied
    (subst (λ (b : Bool). TakesBase c.args.known.now c.args.base.now b c.assume.new.known) c.if-clashes.false c.in_ok-clashes.ensures)
    (saturates_early (present c.args.places.now) c.assume.new.known c.propagate.new.known c.in_ok-conflicts.conflicts c.if-conflicts.true
    c.in_ok-conflicts.ensures)

pub returns : goal.returns
returns g c =
    asks_saturated (present c.args.places.now) c.args.known.now c.args.base.now c.assume.new.known c.saturate.new.known _ c.requires.implied
    (subst (λ (b : Bool). TakesBase c.args.known.now c.args.base.now b c.assume.new.known) c.if-clashes.false c.in_ok-clashes.ensures)
    (saturates_on (present c.args.places.now) c.assume.new.known c.propagate.new.known c.saturate.new.known _ c.in_ok-conflicts.ensures.grows
    c.in_ok-found.ensures)
