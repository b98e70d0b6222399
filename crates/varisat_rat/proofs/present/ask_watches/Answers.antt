use Rattle.std.proofs.Common.{Bool, subst}
use Rattle.varisat_present.specs.Places.{present}
use Rattle.varisat_present.specs.Knowing.{TakesBase}
use Rattle.varisat_rat.proofs.KeptLiterals.{sees_clash, sees_found}
use Rattle.varisat_rat.proofs.present.ask_watches.Goals as goal

pub returns-then-clashes : goal.returns-then-clashes
returns-then-clashes g c =
    sees_clash (present c.args.places.now) c.args.known.now c.args.base.now c.assume.new.known c.requires.implied
    (subst (λ (b : Bool). TakesBase c.args.known.now c.args.base.now b c.assume.new.known) c.if-clashes.true c.in_ok-clashes.ensures)

pub returns : goal.returns
returns g c =
    sees_found (present c.args.places.now) c.args.known.now c.args.base.now c.assume.new.known c.propagate.new.known _ c.requires.implied
    (subst (λ (b : Bool). TakesBase c.args.known.now c.args.base.now b c.assume.new.known) c.if-clashes.false c.in_ok-clashes.ensures)
    c.in_ok-seen.ensures
