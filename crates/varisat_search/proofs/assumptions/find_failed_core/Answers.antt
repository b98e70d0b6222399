use Rattle.std.proofs.Common.{◌≡◌, ◌*◌, false, replicate, length, sym, ap, ◌∙◌, subst}
use Rattle.varisat_theory.specs.promises.Membership.{◌∈◌}
use Rattle.varisat_theory.specs.promises.Literals.{opposite}
use Rattle.varisat_prop.specs.View.{View, WellFormed}
use Rattle.varisat_prop.proofs.trails.TrailValues.{on-trail}
use Rattle.varisat_search.specs.Contexts.{view}
use Rattle.varisat_search.proofs.stepping.Frames.{shown}
use Rattle.varisat_search.proofs.assumptions.find_failed_core.Goals as goal

pub find_core-requires : goal.find_core-requires
find_core-requires g c κs within =
    let (_, (ready, (false_now, seen))) = c.requires in
    let x = c.args.ctx.now in
    let e : view x ≡ g.s = sym seen in
    let on : opposite c.args.failed ∈ g.s.trail = subst (λ (s : View). opposite c.args.failed ∈ s.trail) e
    (on-trail (view x) ready.well (opposite c.args.failed) false_now) in
    (within, (shown x g.s ready e, (subst WellFormed e ready.well, (on, ready.flags ∙ ap (λ (s : View). replicate (2 * length s.values) false) e))))
