use Rattle.std.proofs.Common.{ap, ◌∙◌}
use Rattle.varisat_plain.proofs.Scans.{granted}
use Rattle.varisat_present.specs.Places.{present}
use Rattle.varisat_rat.proofs.RatPlaces.{refuted_follows, seen_there}
use Rattle.varisat_rat.proofs.present.PresentClauses.is_seen_to_follow.Goals as goal

pub returns-then-is_refuted-clause-seen : goal.returns-then-is_refuted-clause-seen
returns-then-is_refuted-clause-seen g c =
    λ t. refuted_follows c.args.self.now c.args.clause.now (granted _ c.in_ok-is_refuted.is_refuted c.if-is_refuted.true c.in_ok-is_refuted.ensures.found)

pub returns-in-Ok-clause-seen : goal.returns-in-Ok-clause-seen
returns-in-Ok-clause-seen g c =
    λ t. seen_there (present c.deref.result.now) c.args.self.now c.args.clause.now c.deref-2.result.now
    (ap present c.deref.ensures.value ∙ c.self.view_is ∙ c.is_refuted.ensures.frame) (c.deref-2.ensures.value ∙ c.in_ok-base.ensures)
    (c.in-Ok.ensures.right t)
