use Rattle.std.proofs.Common.{[], List, not, refl, sym, ap, ◌∙◌, subst}
use Rattle.varisat_theory.specs.promises.Literals.{Clause}
use Rattle.varisat_present.specs.Places.{present}
use Rattle.varisat_rat.specs.inside.Asking.{Keeps}
use Rattle.varisat_rat.proofs.KeptLiterals.{found_there}
use Rattle.varisat_present.proofs.QuietPairs.{literals_there}
use Rattle.varisat_rat.proofs.present.PresentClauses.is_refuted.Goals as goal

pub propagate_to_end-requires-clause-keeps : goal.propagate_to_end-requires-clause-keeps
propagate_to_end-requires-clause-keeps g c =
    subst (λ (P : List Clause). Keeps c.self.inside.is_saturated P c.self.inside.known) (sym (ap present c.deref.ensures.value)) c.self.invariant.0

pub propagate_to_end-requires-clause-ones : goal.propagate_to_end-requires-clause-ones
propagate_to_end-requires-clause-ones g c =
    literals_there c.self.inside.places.items c.deref.result.now c.self.inside.ones.items c.deref-2.result.now c.deref.ensures.value c.deref-2.ensures.value
    c.self.invariant.2

pub propagate_to_end-requires-clause-others : goal.propagate_to_end-requires-clause-others
propagate_to_end-requires-clause-others g c =
    literals_there c.self.inside.places.items c.deref.result.now c.self.inside.others.items c.deref-3.result.now c.deref.ensures.value c.deref-3.ensures.value
    c.self.invariant.3

pub invariant_of-self : goal.invariant_of-self
invariant_of-self g c = (
  subst (λ (P : List Clause). Keeps (not c.in-Ok.found) P c.propagate_to_end.new.known) (ap present c.deref.ensures.value) c.in-Ok.ensures.keeps,
  c.self.invariant.1,
  c.self.invariant.2,
  c.self.invariant.3,
)

pub returns-in-Ok-clause-found : goal.returns-in-Ok-clause-found
returns-in-Ok-clause-found g c =
    found_there (present c.deref.result.now) c.args.self.now [] [] c.in-Ok.found (ap present c.deref.ensures.value ∙ c.self.view_is) refl
    c.in-Ok.ensures.right
