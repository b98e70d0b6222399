use Rattle.varisat_theory.proofs.clauses.Assigned.{assigned_satisfies}
use Rattle.varisat_theory.proofs.laws.soundness.assigned_satisfies.Goals as goal

pub returns : goal.returns
returns c = assigned_satisfies
