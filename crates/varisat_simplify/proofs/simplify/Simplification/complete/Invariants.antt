use Rattle.varisat_simplify.specs.inside.Parts.{GoesOn}
use Rattle.varisat_simplify.proofs.simplify.Simplification.complete.Given as goal

abbrev pub invariant-loop : goal.invariant-loop
invariant-loop g l = GoesOn l.fn.self l.self
