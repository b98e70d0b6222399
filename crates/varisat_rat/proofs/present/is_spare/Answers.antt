use Rattle.std.proofs.Common.{inl, rules}
use Rattle.varisat_present.specs.Places.{present}
use Rattle.varisat_rat.proofs.KeptLiterals.{spare_left}
use Rattle.varisat_rat.proofs.present.is_spare.Goals as goal

pub returns-in-Leaves : goal.returns-in-Leaves
returns-in-Leaves g c =
    λ e. (
      c.if-not-is_saturated.false,
      spare_left (present c.args.places.now) c.args.known.now c.args.clause.now c.in-Leaves.code c.from_code.result
          c.from_code.ensures c.in-Leaves.ensures (c.has_unit.ensures e),
    )

pub returns-in-Open : goal.returns-in-Open
returns-in-Open g c = λ e. (c.if-not-is_saturated.false, inl c.in-Open.ensures)

pub returns-in-False : goal.returns-in-False
returns-in-False g c = search rules
