use Rattle.std.proofs.lemmas.Grind.{common_steps}
use Rattle.std.proofs.Common.{arith, refl}
use Rattle.varisat_rat.proofs.KeptLiterals.{keeps_none}
use Rattle.varisat_rat.proofs.FirstPlaces.{first_within}
use Rattle.varisat_present.proofs.QuietPairs.{literals_cleared}
use Rattle.varisat_rat.proofs.present.PresentClauses.drop_mentions.Goals as goal

pub returns : goal.returns
returns g c = grind (arith, common_steps)

pub invariant_of-self : goal.invariant_of-self
invariant_of-self g c = (
  keeps_none _ _ _ refl c.cut.ensures,
  first_within c.self.inside.places.items c.deref_mut.result.now c.drop_mentions.new.places _ c.self.inside.firsts.items
      (grind (arith, common_steps)) c.deref_mut.ensures.value c.drop_mentions.ensures.stays c.self.invariant.1,
  literals_cleared _ _ c.clear.ensures.items,
  literals_cleared _ _ c.clear-2.ensures.items,
)
