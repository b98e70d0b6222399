use Rattle.std.proofs.Common.{◌≡◌, take}
use Rattle.varisat_search.specs.Simplifications.{unassigned}
use Rattle.varisat_search.proofs.trace.copy_unassigned.Given as goal

abbrev pub invariant-loop-lit : goal.invariant-loop-lit
invariant-loop-lit g l = l.left.items ≡ unassigned l.assignment.current (take l.lit-index l.lits)
