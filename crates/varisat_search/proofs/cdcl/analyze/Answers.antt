use Rattle.std.proofs.Common.{◌≡◌, sym, ◌∙◌, subst}
use Rattle.varisat_prop.specs.View.{View, WellFormed, PropagatedBeforeDecisions}
use Rattle.varisat_prop.specs.Changes.{IsConflicting}
use Rattle.varisat_search.specs.Contexts.{view}
use Rattle.varisat_search.proofs.stepping.Frames.{shown}
use Rattle.varisat_search.proofs.cdcl.analyze.Goals as goal

pub analyze_conflict-requires : goal.analyze_conflict-requires
analyze_conflict-requires g c κs within =
    let (_, (ready, (conflict, seen))) = c.requires in
    let x = c.args.ctx.now in
    let e : view x ≡ g.s = sym seen in
    let conflict = subst (λ (s : View). IsConflicting s c.args.conflict) e conflict in (
      within,
      (
        shown x g.s ready e,
        (
          subst WellFormed e ready.well,
          (subst PropagatedBeforeDecisions e ready.settled, (conflict, ready.analysis ∙ sym ready.well.nodes_are)),
        ),
      ),
    )
