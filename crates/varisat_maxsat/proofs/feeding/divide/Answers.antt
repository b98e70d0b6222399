use Rattle.std.proofs.Common.{rules, w32, ◌+◌, sym, ap, ◌∙◌, subst, take}
use Rattle.std.proofs.Math.Facts.{to_z-of_z}
use mir.Val.{SFits}
use Rattle.varisat_client.specs.promises.Pasts.{ReturnsFailed}
use Rattle.varisat_maxsat.specs.inside.Charges.{IsSplit}
use Rattle.varisat_maxsat.proofs.Given.{divides-failed, divides-kept}
use Rattle.varisat_maxsat.proofs.feeding.divide.Goals as goal
use Rattle.varisat_maxsat.proofs.feeding.divide.Goals.{then-has_failed+in_ok-push, else-has_failed+in_ok-push-2}

pub loop-charge-preserved : goal.loop-charge-preserved
loop-charge-preserved g c = let f : SFits w32 c.in_ok-number_of.field-0 = search rules in
    elim c.if-has_failed.branch [
      | then-has_failed+in_ok-push w ↦ λ p r.
          subst (λ xs. IsSplit p.core (take (c.loop-charge.charge-index + 1) c.args.charges.now) xs c.if-has_failed.failed.items) (sym (ap (λ v. v.items) w.kept-is))
          (divides-failed _ _ _ c.charge-item.result _ _ _ c.loop-charge-test.true c.charge-item.is
          (ap (λ v. v.items) w.failed-is ∙ w.in_ok-push.ensures.items) c.loop-charge.invariant p r)
      | else-has_failed+in_ok-push-2 w ↦ λ p r.
          subst (λ xs. IsSplit p.core (take (c.loop-charge.charge-index + 1) c.args.charges.now) c.if-has_failed.kept.items xs) (sym (ap (λ v. v.items) w.failed-is))
          (divides-kept _ _ _ c.charge-item.result _ _ _ c.in_ok-number_of.field-0 _ c.loop-charge-test.true c.charge-item.is
          (ap (λ v. v.items) w.kept-is ∙ w.in_ok-push-2.ensures.items) (c.in_ok-number_of.ensures.lit ∙ c.not.ensures) c.in_ok-number_of.ensures.some
          (λ q st. subst (λ n. ReturnsFailed n c.has_failed.result q) (to_z-of_z f) (c.has_failed.ensures q st)) w.if-has_failed.false
          c.loop-charge.invariant p r)
    ]
