use Rattle.std.proofs.Common.{refl}
use Rattle.varisat_lines.specs.declared.format.Encoding.TheVariants.{Binary}
use Rattle.varisat_lines.proofs.StepLines.{puts-step}
use Rattle.varisat_lines.proofs.writer.write_binary_step.Goals as goal

pub returns : goal.returns
returns g c =
    puts-step Binary refl (g.W.ProofTarget.taken c.args.target.now)
    (g.W.ProofTarget.taken c.write_entries.new.target) c.write_entries.result c.args.step.now c.write_entries.ensures
