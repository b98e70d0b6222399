use Rattle.std.proofs.Common.{take, IsTrue, ◌↔◌}
use Rattle.varisat_theory.specs.promises.Membership.{SameSet, IsDistinct}
use Rattle.varisat_theory.specs.promises.Searches.{IsTautology}
use Rattle.varisat_analysis.specs.Flags.{AreFlagged}
use Rattle.varisat_analysis.proofs.clause_literals.copy_distinct.Given as goal

abbrev pub invariant-loop-lit : goal.invariant-loop-lit
invariant-loop-lit g l = record {
  distinct : IsDistinct l.lits.items;
  same : SameSet l.lits.items
      (take l.lit-index l.clause);
  tautology : IsTrue l.found ↔ IsTautology l.lits.items;
  flagged : AreFlagged l.flags l.lits.items;
}
