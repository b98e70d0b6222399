use Rattle.std.proofs.Common.{◌-◌, length}
use Rattle.varisat_prop.specs.View.{GrowsTrail}
use Rattle.varisat_search.specs.AssumptionParts.{TakesOutImplied}
use Rattle.varisat_search.specs.Contexts.{view, KeepsSchedule, IsReady}
use Rattle.varisat_search.specs.Frames.{GoesForward}
use Rattle.varisat_search.specs.RootSimplified.{IsRootUnpropagated, FixesNone}
use Rattle.varisat_search.proofs.cdcl.find_conflict.Given as goal

abbrev pub invariant-levels : goal.invariant-levels
invariant-levels g l = record {
  ready : IsReady l.ctx;
  grows : GrowsTrail (view l.fn.ctx) (view l.ctx);
  fixed : (IsRootUnpropagated (view l.fn.ctx) → ⊥) →
      FixesNone (view l.fn.ctx) (view l.ctx);
  taken : TakesOutImplied
      (view l.fn.ctx) l.fn.ctx.assumptions l.ctx.assumptions;
  forward : GoesForward l.fn.ctx l.ctx;
  schedule : KeepsSchedule l.fn.ctx l.ctx;
}

abbrev pub decreases-levels : goal.decreases-levels
decreases-levels g l = length l.ctx.assignment.current - length l.ctx.trail.literals
