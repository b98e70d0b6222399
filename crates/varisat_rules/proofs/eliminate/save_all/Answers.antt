use Rattle.std.proofs.Common.{get_or, refl}
use Rattle.varisat_rules.proofs.EliminateLemmas.{saves_end}
use Rattle.varisat_rules.proofs.EliminateSteps.{saves_by}
use Rattle.varisat_rules.proofs.eliminate.save_all.Goals as goal

pub loop-place-init : goal.loop-place-init
loop-place-init g c = c.requires.saves

pub loop-place-preserved : goal.loop-place-preserved
loop-place-preserved g c =
    saves_by c.args.db.now c.loop-place.db c.save_one.new.db c.args.lit c.args.with.now c.args.against.now c.loop-place.place-index
    (get_or c.args.with.now c.loop-place.place-index 0) refl (c.in_ok-save_one.ensures {u = tt})
    c.loop-place-test.true c.requires.small c.requires.thawed c.loop-place.invariant

pub returns-clause-becomes : goal.returns-clause-becomes
returns-clause-becomes g c = c.loop-place.invariant.becomes

pub returns-clause-led : goal.returns-clause-led
returns-clause-led g c = c.loop-place.invariant.led

pub returns-clause-pure : goal.returns-clause-pure
returns-clause-pure g c =
    saves_end c.args.db.now c.loop-place.db c.args.lit c.args.with.now c.args.against.now c.loop-place.place-index c.loop-place-test.false c.loop-place.invariant

pub returns-clause-rest : goal.returns-clause-rest
returns-clause-rest g c = c.loop-place.invariant.others
