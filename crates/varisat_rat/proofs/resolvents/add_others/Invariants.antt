use Rattle.std.proofs.Common.{◌≡◌, ◌++◌, take}
use Rattle.varisat_theory.specs.promises.Literals.{opposites}
use Rattle.varisat_theory.specs.promises.Rat.{but_for}
use Rattle.varisat_rat.proofs.resolvents.add_others.Given as goal

abbrev pub invariant-loop-l : goal.invariant-loop-l
invariant-loop-l g l = l.base.items ≡ l.fn.base.items ++ opposites (but_for l.literal (take l.l-index l.clause))
