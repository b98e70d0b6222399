use Rattle.std.proofs.Common.{List, sym, ap, ◌∙◌, subst}
use Rattle.varisat_theory.specs.promises.Literals.{Literal}
use Rattle.varisat_plain.proofs.Scans.{granted}
use Rattle.varisat_present.specs.Places.{present}
use Rattle.varisat_rat.specs.inside.Asking.{Keeps}
use Rattle.varisat_rat.proofs.FirstPlaces.{none_there}
use Rattle.varisat_rat.proofs.RatPlaces.{rat_found, refuted_rat}
use Rattle.varisat_rat.proofs.present.PresentClauses.is_rat_on.Goals as goal

pub returns-then-is_refuted-clause-found : goal.returns-then-is_refuted-clause-found
returns-then-is_refuted-clause-found g c =
    refuted_rat c.args.self.now c.args.clause.now c.args.literal (granted _ c.in_ok-is_refuted.is_refuted c.if-is_refuted.true c.in_ok-is_refuted.ensures.found)

pub invariant_of-self : goal.invariant_of-self
invariant_of-self g c = (
  subst (λ (x : List Literal). Keeps c.self.inside.is_saturated (present c.self.inside.places.items) x) (sym c.in-Ok.ensures.frame) c.self.invariant.0,
  c.self.invariant.1,
  c.self.invariant.2,
  c.self.invariant.3,
)

pub returns-in-Ok-clause-found : goal.returns-in-Ok-clause-found
returns-in-Ok-clause-found g c =
    rat_found (present c.deref.result.now) c.args.self.now c.args.clause.now c.deref-2.result.now c.args.literal c.not-2.result c.in-Ok.found
    (ap present c.deref.ensures.value ∙ c.self.view_is ∙ c.is_refuted.ensures.frame) (c.deref-2.ensures.value ∙ c.in_ok-base.ensures) c.not-2.ensures
    c.in-Ok.ensures.found

pub resolvents_conflict-requires-clause-none : goal.resolvents_conflict-requires-clause-none
resolvents_conflict-requires-clause-none g c =
    none_there c.self.inside.places.items c.deref.result.now c.self.inside.firsts.items c.deref-2.result.now c.not.result c.not-2.result
    c.first_of-first.result c.deref.ensures.value (c.not.ensures ∙ sym c.not-2.ensures) c.self.invariant.1 c.first_of-first.ensures.far
    c.first_of-first.ensures.near
