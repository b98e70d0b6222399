use Rattle.std.proofs.Common.{subst}
use Rattle.varisat_theory.specs.promises.Membership.{SameSet}
use Rattle.varisat_plain.proofs.Scans.{refused, granted}
use Rattle.varisat_present.proofs.PlacedClauses.{same_clause}
use Rattle.varisat_present.proofs.places.is_equal_at.Goals as goal

pub returns-in-Some-clause-yes : goal.returns-in-Some-clause-yes
returns-in-Some-clause-yes g c = λ e. (c.in-Some.held.now, c.in-Some.ensures, granted _ c.is_equal_set.result e c.is_equal_set.ensures)

pub returns-in-Some-clause-no : goal.returns-in-Some-clause-no
returns-in-Some-clause-no g c =
    λ e d q s. refused _ c.is_equal_set.result e c.is_equal_set.ensures
    (subst (λ y. SameSet y c.args.clause.now) (same_clause c.args.places.now c.args.place d c.in-Some.held.now q c.in-Some.ensures) s)
