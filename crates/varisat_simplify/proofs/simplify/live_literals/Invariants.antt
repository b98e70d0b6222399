use Rattle.varisat_simplify.proofs.CountLemmas.{CountsLive}
use Rattle.varisat_simplify.proofs.simplify.live_literals.Given as goal

abbrev pub invariant-loop-place : goal.invariant-loop-place
invariant-loop-place g l = CountsLive l.db l.place l.sum
