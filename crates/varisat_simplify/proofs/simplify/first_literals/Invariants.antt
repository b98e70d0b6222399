use Rattle.varisat_simplify.proofs.CountLemmas.{CountsFirst}
use Rattle.varisat_simplify.proofs.simplify.first_literals.Given as goal

abbrev pub invariant-loop-place : goal.invariant-loop-place
invariant-loop-place g l = CountsFirst l.db.clauses l.place l.sum
