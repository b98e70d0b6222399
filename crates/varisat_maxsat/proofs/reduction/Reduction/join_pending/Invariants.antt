use Rattle.std.specs.VecDeque.{deque_len}
use Rattle.varisat_maxsat.specs.promises.Problems.{Problem}
use Rattle.varisat_maxsat.specs.inside.Reductions.{ReducesToWith}
use Rattle.varisat_maxsat.proofs.reduction.Reduction.join_pending.Given as goal

abbrev pub invariant-gates : goal.invariant-gates
invariant-gates g l = (p : Problem) → ReducesToWith p l.initial.pending.items l.weight l.initial.self → ReducesToWith p l.pending.items l.weight l.self

abbrev pub decreases-gates : goal.decreases-gates
decreases-gates g l = deque_len l.pending
