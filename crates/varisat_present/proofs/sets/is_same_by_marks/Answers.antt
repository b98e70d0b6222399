use Rattle.varisat_plain.proofs.Scans.{granted}
use Rattle.varisat_present.proofs.sets.is_same_by_marks.Goals as goal

pub returns : goal.returns
returns g c =
    let within = granted _ _ c.if-not-is_within.false c.in_ok-is_within.ensures in
    ((λ t. (within, c.in_ok-found.ensures.0 t)), (λ (a, b). c.in_ok-found.ensures.1 b))
