use Rattle.std.proofs.Common.{◌≡◌}
use Rattle.varisat_search.specs.Contexts.{view}
use Rattle.varisat_search.proofs.stepping.Backtrack.{Cutting}
use Rattle.varisat_search.proofs.stepping.BacktrackValues.{Saving, Making}
use Rattle.varisat_search.proofs.levels.undo.Given as goal

abbrev pub invariant-loop-place : goal.invariant-loop-place
invariant-loop-place g l = record {
  cutting : Cutting (view l.fn.ctx) (view l.ctx) l.end l.place;
  saving : Saving
      (view l.fn.ctx) l.fn.ctx.assignment.last l.ctx.assignment.last l.end l.place;
  making : Making
      (view l.fn.ctx) l.fn.ctx.vsids l.ctx.vsids l.end l.place;
  kept : l.ctx ≡ record l.fn.ctx { assignment = l.ctx.assignment; vsids = l.ctx.vsids };
}
