use Rattle.varisat_simplify.proofs.NormalLemmas.{ReadsBefore}
use Rattle.varisat_simplify.proofs.normal.normalize.Given as goal

abbrev pub invariant-loop-lit : goal.invariant-loop-lit
invariant-loop-lit g l = ReadsBefore l.names l.is_noted l.positions l.clause l.lit-index l.out.items
