use Rattle.std.proofs.Common.{ap}
use Rattle.varisat_steps.specs.Traces.{entries_of}
use Rattle.varisat_lines.proofs.StepLines.{puts-units}
use Rattle.varisat_lines.proofs.writer.write_entries.Goals as goal

pub returns-in-UnitClauses : goal.returns-in-UnitClauses
returns-in-UnitClauses g c =
    puts-units c.args.encoding (g.W.ProofTarget.taken c.args.target.now) (g.W.ProofTarget.taken c.write_units.new.target) c.write_units.result
    c.in-UnitClauses.units.now c.args.step.now (ap entries_of c.in-UnitClauses.is) c.write_units.ensures
