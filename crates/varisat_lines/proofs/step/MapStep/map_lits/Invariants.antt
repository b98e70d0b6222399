use Rattle.std.proofs.Common.{take}
use Rattle.varisat_lines.specs.inside.Mapping.{MapsLits}
use Rattle.varisat_lines.proofs.step.MapStep.map_lits.Given as goal

abbrev pub invariant-loop-lit : goal.invariant-loop-lit
invariant-loop-lit g l = MapsLits (goal.F-post g l.fn.map_var) (take l.lit-index l.fn.lits) l.self.lits.items
