use Rattle.std.proofs.Common.{refl, ◌∙◌}
use Rattle.varisat_theory.specs.promises.Literals.{opposites}
use Rattle.varisat_rat.proofs.KeptLiterals.{found_there}
use Rattle.varisat_rat.proofs.present.PresentClauses.follows.Goals as goal

pub returns-clause-found : goal.returns-clause-found
returns-clause-found g c =
    found_there c.args.self.now c.args.self.now c.deref.result.now (opposites c.args.clause.now) _ refl
    (c.deref.ensures.value ∙ c.in_ok-base.ensures) c.in_ok-found.ensures.found
