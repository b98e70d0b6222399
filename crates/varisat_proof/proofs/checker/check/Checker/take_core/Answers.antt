use Rattle.std.proofs.Common.{List, ap, subst, refl, ◌∙◌}
use Rattle.varisat_theory.specs.promises.Literals.{Clause}
use Rattle.varisat_theory.specs.promises.Propagation.{Conflicts}
use Rattle.varisat_plain.proofs.Scans.{refused, granted}
use Rattle.varisat_proof.proofs.CheckedLines.{state_is}
use Rattle.varisat_proof.proofs.checker.check.Checker.take_core.Goals as goal

pub returns-then-not-is_failed-clause-status : goal.returns-then-not-is_failed-clause-status
returns-then-not-is_failed-clause-status g c = (
  (
    granted _ c.assumes.result c.if-not-assumes.false c.assumes.ensures,
    subst (λ (P : List Clause). Conflicts P c.args.core.now → ⊥)
        (ap (λ h. h.clauses) c.self.view_is) (refused _ c.in_ok-is_failed.is_failed c.if-not-is_failed.true c.in_ok-is_failed.ensures.found),
  ),
  state_is _ _ _ _ (c.conflicts.ensures.frame ∙ ap (λ h. h.clauses) c.self.view_is) refl,
)

pub returns-clause-status : goal.returns-clause-status
returns-clause-status g c = (
  granted _ c.assumes.result c.if-not-assumes.false c.assumes.ensures,
  subst (λ (P : List Clause). Conflicts P c.args.core.now) (ap (λ h. h.clauses) c.self.view_is)
      (granted _ c.in_ok-is_failed.is_failed c.if-not-is_failed.false c.in_ok-is_failed.ensures.found),
  state_is _ _ _ _ (c.conflicts.ensures.frame ∙ ap (λ h. h.clauses) c.self.view_is) c.in_ok-push_core.ensures,
)
