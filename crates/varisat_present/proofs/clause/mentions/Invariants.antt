use Rattle.std.proofs.Common.{◌≡◌, take, false}
use Rattle.varisat_theory.specs.promises.Held.{mentions}
use Rattle.varisat_present.proofs.clause.mentions.Given as goal

abbrev pub invariant-loop-l : goal.invariant-loop-l
invariant-loop-l l = mentions l.var (take l.l-index l.clause) ≡ false
