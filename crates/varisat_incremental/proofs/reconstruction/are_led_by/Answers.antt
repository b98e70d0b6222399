use Rattle.std.proofs.Common.{◌≤◌, subst}
use Rattle.varisat_incremental.proofs.TakingLemmas.{led-next, led-all}
use Rattle.varisat_incremental.proofs.reconstruction.are_led_by.Goals as goal

pub returns : goal.returns
returns g c = λ t. led-all c.args.flags.now c.args.stack.now c.loop-place.place (subst (λ n. n ≤ c.loop-place.place) c.len-place-end.ensures c.loop-place-test.false)
    c.loop-place.invariant
