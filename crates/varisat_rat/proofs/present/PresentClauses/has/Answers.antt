use Rattle.std.proofs.Common.{List, subst, sym, ap, ◌∙◌}
use Rattle.varisat_theory.specs.promises.Literals.{Clause}
use Rattle.varisat_theory.specs.promises.Membership.{◌∈◌, SameSet}
use Rattle.varisat_present.specs.Places.{present}
use Rattle.varisat_present.proofs.PlacedClauses.{equal_there}
use Rattle.varisat_rat.proofs.present.PresentClauses.has.Goals as goal

pub returns-in-None-clause-no : goal.returns-in-None-clause-no
returns-in-None-clause-no g c = λ e d m. c.in-None.ensures d (subst (λ (P : List Clause). d ∈ P) (sym (ap present c.deref.ensures.value ∙ c.self.view_is)) m)

pub returns-in-Some-clause-yes : goal.returns-in-Some-clause-yes
returns-in-Some-clause-yes g c =
    λ e. subst (λ (P : List Clause). (x : Clause) × (x ∈ P) × SameSet x c.args.clause.now) (ap present c.deref.ensures.value ∙ c.self.view_is)
    (equal_there c.deref.result.now c.in-Some.field-0 c.args.clause.now c.in-Some.ensures)
