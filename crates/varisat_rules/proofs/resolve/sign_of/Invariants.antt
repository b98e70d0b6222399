use Rattle.std.proofs.Common.{take}
use Rattle.varisat_rules.specs.inside.Resolving.{IsOfOthers}
use Rattle.varisat_rules.proofs.resolve.sign_of.Given as goal

abbrev pub invariant-loop-other : goal.invariant-loop-other
invariant-loop-other l = IsOfOthers (take l.other-index l.clause) l.lit
