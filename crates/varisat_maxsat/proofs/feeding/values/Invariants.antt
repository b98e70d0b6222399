use Rattle.varisat_theory.specs.promises.Literals.{Assignment, MakesTrue}
use Rattle.varisat_client.specs.promises.Pasts.{ClientPast}
use Rattle.varisat_maxsat.specs.inside.Charges.{AreValues}
use Rattle.varisat_maxsat.specs.inside.Reductions.{IsReady}
use Rattle.varisat_maxsat.proofs.feeding.values.Given as goal

abbrev pub invariant-loop-index : goal.invariant-loop-index
invariant-loop-index g l = (p : ClientPast) → IsReady l.client p → (a : Assignment) → MakesTrue a p.model → AreValues l.index p.model l.values.items
