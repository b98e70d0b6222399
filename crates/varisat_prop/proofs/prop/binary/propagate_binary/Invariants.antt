use Rattle.varisat_prop.specs.View.{view_of}
use Rattle.varisat_prop.specs.QueueSteps.{parts_of, KeepsUnseen}
use Rattle.varisat_prop.proofs.pairs.BinaryPropagated.{Implying}
use Rattle.varisat_prop.proofs.prop.binary.propagate_binary.Given as goal

abbrev pub invariant-loop-entry : goal.invariant-loop-entry
invariant-loop-entry g l = record {
  implying : Implying (view_of l.alloc l.binary l.fn.assignment l.fn.trail l.fn.graph)
      (view_of l.alloc l.binary l.assignment l.trail l.graph) l.lit l.entry-index;
  keeps : KeepsUnseen (parts_of l.alloc l.binary l.fn.assignment l.fn.trail l.fn.graph)
      (parts_of l.alloc l.binary l.assignment l.trail l.graph);
}
