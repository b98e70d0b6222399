use Rattle.std.proofs.Common.{arith}
use Rattle.varisat_present.proofs.QuietPairs.{pair_read}
use Rattle.varisat_present.proofs.pairs.is_quiet_at.Goals as goal

pub returns : goal.returns
returns g c =
    λ e. (
      omega (arith, c.if-place-ones.false),
      omega (arith, c.if-place-others.false),
      pair_read c.args.known.now c.args.ones.now c.args.others.now c.args.place c.index-ones-place.result c.index-others-place.result
          (omega (arith, c.if-place-ones.false)) (omega (arith, c.if-place-others.false)) c.index-ones-place.is c.index-others-place.is
          (c.is_quiet_pair.ensures e),
    )
