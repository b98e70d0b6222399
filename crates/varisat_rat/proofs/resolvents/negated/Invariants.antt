use Rattle.std.proofs.Common.{◌≡◌, take}
use Rattle.varisat_theory.specs.promises.Literals.{opposites}
use Rattle.varisat_rat.proofs.resolvents.negated.Given as goal

abbrev pub invariant-loop-l : goal.invariant-loop-l
invariant-loop-l g l = l.base.items ≡ opposites (take l.l-index l.clause)
