use Rattle.varisat_present.specs.Places.{present}
use Rattle.varisat_rat.proofs.KeptLiterals.{propagated_already, propagated_found}
use Rattle.varisat_rat.proofs.present.propagate_to_end.Goals as goal

pub returns-then-is_saturated : goal.returns-then-is_saturated
returns-then-is_saturated g c = propagated_already c.args.is_saturated (present c.args.places.now) c.args.known.now c.if-is_saturated.true c.requires.keeps

pub returns : goal.returns
returns g c =
    propagated_found c.args.is_saturated (present c.args.places.now) c.args.known.now c.saturate.new.known c.in_ok-found.found c.requires.keeps c.in_ok-found.ensures

pub saturate-requires-clause-no_clash : goal.saturate-requires-clause-no_clash
saturate-requires-clause-no_clash g c = c.requires.keeps.no_clash
