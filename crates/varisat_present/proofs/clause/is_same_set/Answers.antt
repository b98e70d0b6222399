use Rattle.varisat_plain.proofs.Scans.{granted}
use Rattle.varisat_present.proofs.clause.is_same_set.Goals as goal

pub returns-then-is_part : goal.returns-then-is_part
returns-then-is_part c =
    (λ t. (granted _ c.is_part.result c.if-is_part.true c.is_part.ensures, c.is_part-then-is_part.ensures.0 t), λ s. c.is_part-then-is_part.ensures.1 s.1)
