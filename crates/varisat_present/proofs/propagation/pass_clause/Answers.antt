use Rattle.std.proofs.Common.{◌++◌, [], ◌∷◌, ◌∙◌, ℕ, inl, inr, refl, ap, subst}
use Rattle.varisat_theory.specs.promises.Membership.{◌∈◌}
use Rattle.varisat_plain.proofs.Scans.{refused, granted}
use Rattle.varisat_present.proofs.KnownGrowth.{complete_left, complete_open}
use Rattle.varisat_present.proofs.propagation.pass_clause.Goals as goal

pub returns-then-holds : goal.returns-then-holds
returns-then-holds g c =
    inl (
      refl,
      complete_left c.args.known.now c.args.clause.now c.in-Leaves.code c.in-Leaves.ensures
          (subst (λ x. x ∈ c.args.known.now) c.from_code-left.ensures (granted _ c.holds.result c.if-holds.true c.holds.ensures)),
    )

pub returns-in_ok-push-in-Leaves : goal.returns-in_ok-push-in-Leaves
returns-in_ok-push-in-Leaves g c =
    inr (
      c.in-Leaves.code,
      c.in-Leaves.ensures.0,
      c.in-Leaves.ensures.2,
      c.in-Leaves.ensures.1,
      subst (λ x. x ∈ c.args.known.now → ⊥)
          c.from_code-left.ensures (refused _ c.holds.result c.if-holds.false c.holds.ensures),
      c.in_ok-push-in-Leaves.ensures ∙
          ap (λ (x : ℕ). c.args.known.now ++ x ∷ []) c.from_code-left.ensures,
    )

pub returns-in-Open : goal.returns-in-Open
returns-in-Open g c = inl (refl, complete_open c.args.known.now c.args.clause.now c.in-Open.ensures)
