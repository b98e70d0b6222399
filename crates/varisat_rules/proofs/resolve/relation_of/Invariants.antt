use Rattle.varisat_rules.proofs.ResolveLemmas.{IsRelated}
use Rattle.varisat_rules.proofs.resolve.relation_of.Given as goal

abbrev pub invariant-loop-lit : goal.invariant-loop-lit
invariant-loop-lit g l = IsRelated l.clause l.other l.lit-index l.flipped
