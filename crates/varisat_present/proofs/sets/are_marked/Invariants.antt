use Rattle.std.proofs.Common.{take}
use Rattle.varisat_theory.specs.promises.Membership.{◌⊆◌}
use Rattle.varisat_present.proofs.sets.are_marked.Given as goal

abbrev pub invariant-loop-l : goal.invariant-loop-l
invariant-loop-l g l = take l.l-index l.literals ⊆ l.marks
