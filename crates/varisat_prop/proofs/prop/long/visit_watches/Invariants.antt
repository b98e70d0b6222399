use Rattle.std.proofs.Common.{◌-◌, length}
use Rattle.varisat_prop.specs.QueueSteps.{parts_of}
use Rattle.varisat_prop.proofs.watching.LongListed.{Visiting}
use Rattle.varisat_prop.proofs.prop.long.visit_watches.Given as goal

abbrev pub invariant-loop-read : goal.invariant-loop-read
invariant-loop-read g l =
    Visiting (parts_of l.fn.alloc l.binary l.fn.assignment l.fn.trail l.fn.graph)
    (parts_of l.alloc l.binary l.assignment l.trail l.graph) l.fn.watchlists l.watchlists l.lit l.watches l.write l.read

abbrev pub decreases-loop-read : goal.decreases-loop-read
decreases-loop-read g l = length l.watches - l.read
