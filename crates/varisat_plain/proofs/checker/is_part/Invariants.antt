use Rattle.std.proofs.Common.{take}
use Rattle.varisat_theory.specs.promises.Membership.{◌⊆◌}
use Rattle.varisat_plain.proofs.checker.is_part.Given as goal

abbrev pub invariant-loop-l : goal.invariant-loop-l
invariant-loop-l l = take l.l-index l.part ⊆ l.clause
