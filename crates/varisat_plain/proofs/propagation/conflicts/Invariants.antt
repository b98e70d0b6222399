use Rattle.std.proofs.Common.{take}
use Rattle.varisat_plain.specs.promises.Checking.{clause_lists}
use Rattle.varisat_plain.proofs.PropagationRounds.{Reaches, Round, unknown}
use Rattle.varisat_plain.proofs.propagation.conflicts.Given as goal

abbrev pub invariant-loop-clause : goal.invariant-loop-clause
invariant-loop-clause l =
    Round (clause_lists l.clauses) l.base l.initial.known.items l.known.items (take l.clause-index (clause_lists l.clauses))

abbrev pub invariant-rounds : goal.invariant-rounds
invariant-rounds l = Reaches (clause_lists l.clauses) l.base l.known.items

abbrev pub decreases-rounds : goal.decreases-rounds
decreases-rounds l = unknown (clause_lists l.clauses) l.known.items
