use Rattle.std.proofs.Common.{[], ◌∷◌, take}
use Rattle.varisat_search.specs.Forgotten.{FlagsAlso}
use Rattle.varisat_search.proofs.forgetting.flag_clause.Given as goal

abbrev pub invariant-loop-lit : goal.invariant-loop-lit
invariant-loop-lit l = FlagsAlso (take l.lit-index l.lits ∷ []) l.fn.flags l.flags
