use Rattle.std.proofs.Common.{◌≡◌, map, take}
use Rattle.varisat_tracer.specs.inside.Tracing.{global_literal}
use Rattle.varisat_tracer.proofs.tracer.map_lits.Given as goal

abbrev pub invariant-loop-literal : goal.invariant-loop-literal
invariant-loop-literal g l = l.mapped.items ≡ map (global_literal l.variables) (take l.literal-index l.literals)
