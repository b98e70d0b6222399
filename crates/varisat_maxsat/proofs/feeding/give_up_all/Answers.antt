use Rattle.varisat_maxsat.proofs.Lightening.{all-given-up}
use Rattle.varisat_maxsat.proofs.feeding.give_up_all.Goals as goal

pub returns : goal.returns
returns g c = all-given-up _ _ _ _ _ c.as_slice.ensures.value c.in_ok-extend_from_slice.ensures.items c.clear.ensures.items
