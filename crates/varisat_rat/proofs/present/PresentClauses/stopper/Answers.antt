use Rattle.std.proofs.Common.{ap, ◌∙◌, subst, List}
use Rattle.varisat_theory.specs.promises.Literals.{Clause}
use Rattle.varisat_theory.specs.promises.Membership.{◌∈◌}
use Rattle.varisat_present.specs.Places.{present}
use Rattle.varisat_present.proofs.PlacedClauses.{at_in}
use Rattle.varisat_rat.proofs.present.PresentClauses.stopper.Goals as goal

pub returns-in-Some : goal.returns-in-Some
returns-in-Some g c =
    subst (λ (P : List Clause). c.in-Some.clause.now ∈ P) (ap present c.deref.ensures.value ∙ c.self.view_is)
    (at_in c.deref.result.now c.self.inside.stopper c.in-Some.clause.now c.in-Some.ensures)
