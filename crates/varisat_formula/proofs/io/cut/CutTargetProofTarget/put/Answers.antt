use Rattle.std.proofs.Common.{ap}
use Rattle.varisat_formula.specs.promises.Streams.{CutTaken}
use Rattle.varisat_formula.proofs.CutTexts.{part_taken}
use Rattle.varisat_formula.proofs.io.cut.CutTargetProofTarget.put.Goals as goal

pub returns-then-self-clause-begun : goal.returns-then-self-clause-begun
returns-then-self-clause-begun g c = rw (← c.self.view_is, ap (λ (t : CutTaken). t.bytes) c.self-then-self.view_is) (
    part_taken _ _ _ _ c.append_part.ensures.bytes)
