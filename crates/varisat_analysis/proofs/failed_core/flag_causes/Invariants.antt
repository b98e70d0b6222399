use Rattle.std.proofs.Common.{take}
use Rattle.varisat_analysis.specs.FailedCores.{FlagsCauses}
use Rattle.varisat_analysis.proofs.failed_core.flag_causes.Given as goal

abbrev pub invariant-loop-lit : goal.invariant-loop-lit
invariant-loop-lit g l = FlagsCauses g.s (take l.lit-index l.lits) l.fn.flags l.flags
