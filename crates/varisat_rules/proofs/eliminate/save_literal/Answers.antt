use Rattle.std.proofs.Common.{get_or, refl}
use Rattle.varisat_rules.proofs.EliminateLemmas.{drops_end, drops_led, drops_gone}
use Rattle.varisat_rules.proofs.EliminateSteps.{drops_begun, drops_by}
use Rattle.varisat_rules.proofs.eliminate.save_literal.Goals as goal

pub loop-place-init : goal.loop-place-init
loop-place-init g c = drops_begun c.args.db.now c.save.new.self c.args.lit c.args.places.now _ refl (c.in_ok-save.ensures {u = tt}).ok

pub loop-place-preserved : goal.loop-place-preserved
loop-place-preserved g c =
    drops_by c.args.db.now c.loop-place.db c.remove.new.self c.args.lit c.args.places.now c.loop-place.place-index
    (get_or c.args.places.now c.loop-place.place-index 0) refl (c.in_ok-remove.ensures {u = tt})
    c.loop-place-test.true c.requires.with c.loop-place.invariant

pub returns-clause-becomes : goal.returns-clause-becomes
returns-clause-becomes g c =
    drops_end c.args.db.now c.loop-place.db c.args.lit c.args.places.now c.loop-place.place-index c.requires.small c.requires.thawed c.requires.one c.requires.occurs c.requires.pure
    c.loop-place.invariant

pub returns-clause-led : goal.returns-clause-led
returns-clause-led g c = drops_led c.args.db.now c.loop-place.db c.args.lit c.args.places.now c.loop-place.place-index c.loop-place.invariant

pub returns-clause-gone : goal.returns-clause-gone
returns-clause-gone g c =
    drops_gone c.args.db.now c.loop-place.db c.args.lit c.args.places.now c.loop-place.place-index c.loop-place-test.false c.requires.with c.requires.pure
    c.loop-place.invariant
