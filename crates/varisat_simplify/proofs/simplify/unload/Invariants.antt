use Rattle.varisat_simplify.proofs.UnloadLemmas.{Listing}
use Rattle.varisat_simplify.proofs.simplify.unload.Given as goal

abbrev pub invariant-loop-place : goal.invariant-loop-place
invariant-loop-place g l = Listing l.db l.formula l.place
