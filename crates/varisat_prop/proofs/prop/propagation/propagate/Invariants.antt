use Rattle.std.proofs.Common.{◌-◌, length}
use Rattle.varisat_prop.specs.QueueSteps.{parts_of}
use Rattle.varisat_prop.proofs.trails.NextLiteral.{QueueGoesOn}
use Rattle.varisat_prop.proofs.prop.propagation.propagate.Given as goal

abbrev pub invariant-queue : goal.invariant-queue
invariant-queue g l = QueueGoesOn (parts_of l.fn.alloc l.binary l.fn.assignment l.fn.trail l.fn.graph)
    (parts_of l.alloc l.binary l.assignment l.trail l.graph) l.watchlists

abbrev pub decreases-queue : goal.decreases-queue
decreases-queue g l = length l.assignment.current - l.trail.queue_head
