use Rattle.std.proofs.Common.{List, not, sym, ap, ◌∙◌, subst}
use Rattle.varisat_theory.specs.promises.Literals.{Clause}
use Rattle.varisat_present.specs.Places.{present}
use Rattle.varisat_rat.specs.inside.Asking.{Keeps}
use Rattle.varisat_rat.proofs.RatPlaces.{forced, unforced}
use Rattle.varisat_present.proofs.QuietPairs.{literals_there}
use Rattle.varisat_rat.proofs.present.PresentClauses.is_forced.Goals as goal

pub propagate_to_end-requires-clause-keeps : goal.propagate_to_end-requires-clause-keeps
propagate_to_end-requires-clause-keeps g c =
    subst (λ (P : List Clause). Keeps c.self.inside.is_saturated P c.self.inside.known) (sym (ap present c.deref.ensures.value)) c.self.invariant.0

pub propagate_to_end-requires-clause-ones : goal.propagate_to_end-requires-clause-ones
propagate_to_end-requires-clause-ones g c =
    literals_there c.self.inside.places.items c.deref.result.now c.self.inside.ones.items c.deref-2.result.now c.deref.ensures.value c.deref-2.ensures.value
    c.self.invariant.2

pub propagate_to_end-requires-clause-others : goal.propagate_to_end-requires-clause-others
propagate_to_end-requires-clause-others g c =
    literals_there c.self.inside.places.items c.deref.result.now c.self.inside.others.items c.deref-3.result.now c.deref.ensures.value c.deref-3.ensures.value
    c.self.invariant.3

pub invariant_of-self : goal.invariant_of-self
invariant_of-self g c = (
  subst (λ (P : List Clause). Keeps (not c.in-Ok.found) P c.propagate_to_end.new.known) (ap present c.deref.ensures.value) c.in-Ok.ensures.keeps,
  c.self.invariant.1,
  c.self.invariant.2,
  c.self.invariant.3,
)

pub returns-in-Ok-clause-yes : goal.returns-in-Ok-clause-yes
returns-in-Ok-clause-yes g c =
    λ e. forced (present c.deref.result.now) c.args.self.now c.propagate_to_end.new.known c.args.clause.now (ap present c.deref.ensures.value ∙ c.self.view_is)
    c.in-Ok.ensures.keeps.implied (c.leaves_one.ensures.yes e)

pub returns-in-Ok-clause-no : goal.returns-in-Ok-clause-no
returns-in-Ok-clause-no g c =
    λ e n f. unforced (present c.deref.result.now) c.args.self.now c.propagate_to_end.new.known c.args.clause.now c.in-Ok.found
    (ap present c.deref.ensures.value ∙ c.self.view_is) c.in-Ok.ensures (c.leaves_one.ensures.no e) n f
