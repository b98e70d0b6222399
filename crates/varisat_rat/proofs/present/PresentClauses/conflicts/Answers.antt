use Rattle.std.proofs.lemmas.Grind.{common_steps}
use Rattle.std.proofs.Common.{[], List, refl, ap, ◌∙◌, subst, arith}
use Rattle.varisat_theory.specs.promises.Literals.{Clause}
use Rattle.varisat_theory.specs.promises.Propagation.{Conflicts}
use Rattle.varisat_plain.proofs.Scans.{granted}
use Rattle.varisat_present.specs.Places.{present}
use Rattle.varisat_rat.proofs.KeptLiterals.{refuted_more, found_there}
use Rattle.varisat_rat.proofs.present.PresentClauses.conflicts.Goals as goal

pub returns-then-is_refuted-clause-found : goal.returns-then-is_refuted-clause-found
returns-then-is_refuted-clause-found g c =
    refuted_more c.args.self.now c.args.base.now (subst (λ (P : List Clause). Conflicts P []) c.note_literals.ensures
    (granted _ c.in_ok-is_refuted.is_refuted c.if-is_refuted.true c.in_ok-is_refuted.ensures.found))

pub returns-in-Ok-clause-found : goal.returns-in-Ok-clause-found
returns-in-Ok-clause-found g c =
    found_there (present c.deref.result.now) c.args.self.now c.args.base.now c.args.base.now c.in-Ok.found
    (ap present c.deref.ensures.value ∙ c.self.view_is ∙ c.is_refuted.ensures.frame ∙ c.note_literals.ensures) refl c.in-Ok.ensures.right

pub returns-then-is_empty-clause-found : goal.returns-then-is_empty-clause-found
returns-then-is_empty-clause-found g c = grind (arith, common_steps)

pub invariant_of-self : goal.invariant_of-self
invariant_of-self g c = grind (arith, common_steps)
