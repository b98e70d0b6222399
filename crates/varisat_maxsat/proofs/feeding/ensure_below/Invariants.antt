use Rattle.std.proofs.Common.{take}
use Rattle.varisat_maxsat.specs.inside.Charges.{LiteralsAreBelow}
use Rattle.varisat_maxsat.proofs.feeding.ensure_below.Given as goal

abbrev pub invariant-loop-literal : goal.invariant-loop-literal
invariant-loop-literal l = LiteralsAreBelow l.count (take l.literal-index l.clause)
