use Rattle.std.proofs.Common.{rules, w32, ◌+◌, sym, ◌∙◌, subst, take}
use Rattle.std.proofs.Math.Facts.{to_z-of_z}
use Rattle.std.proofs.lemmas.List.{take_all}
use mir.Val.{SFits}
use Rattle.varisat_client.specs.promises.Pasts.{ClientPast, AssumesNumber}
use Rattle.varisat_client.specs.inside.Clients.{RepresentsPast}
use Rattle.varisat_maxsat.proofs.Given.{AssumesSoFar, assumes-start, assumes-next, assumes-skip, assumed-all}
use Rattle.varisat_maxsat.proofs.feeding.assume.Goals as goal
use Rattle.varisat_maxsat.proofs.feeding.assume.Goals.{then-charge-threshold+in_ok-number_of, else-charge-threshold}

pub loop-charge-init : goal.loop-charge-init
loop-charge-init g c = assumes-start c.args.client.now c.args.threshold

pub loop-charge-preserved : goal.loop-charge-preserved
loop-charge-preserved g c =
    elim c.if-charge-threshold.branch [
      | then-charge-threshold+in_ok-number_of w ↦
          let f : SFits w32 w.in_ok-number_of.field-0 = search rules in
          subst (AssumesSoFar c.args.client.now c.args.threshold (take (c.loop-charge.charge-index + 1) c.args.charges.now)) (sym w.client-is)
          (assumes-next _ _ _ _ _ _ c.charge-item.result _ c.loop-charge-test.true c.charge-item.is (w.in_ok-number_of.ensures.lit ∙ w.not.ensures)
          w.in_ok-number_of.ensures.some
          (λ p st. subst (λ n. (q : ClientPast) × AssumesNumber n p q × RepresentsPast w.assume.new.self q) (to_z-of_z f) (w.assume.ensures p st)) c.loop-charge.invariant)
      | else-charge-threshold w ↦
          subst (AssumesSoFar c.args.client.now c.args.threshold (take (c.loop-charge.charge-index + 1) c.args.charges.now)) (sym w.client-is)
          (assumes-skip _ _ _ _ _ c.charge-item.result c.loop-charge-test.true c.charge-item.is w.if-charge-threshold.false c.loop-charge.invariant)
    ]

pub returns : goal.returns
returns g c = assumed-all _ _ _ _ _ _ (take_all _ _ c.loop-charge-test.false) c.begin.ensures c.in_ok-ensure_accepted.ensures c.loop-charge.invariant
