use Rattle.std.proofs.lemmas.Grind.{common_steps}
use Rattle.std.proofs.Common.{◌∙◌, arith, refl}
use Rattle.varisat_prop.proofs.watching.LongRearranged.{rearranged-trans}
use Rattle.varisat_prop.proofs.prop.long.reorder.Goals as goal

pub find_other-requires-clause-within : goal.find_other-requires-clause-within
find_other-requires-clause-within g c = λ l h. c.requires.within l (c.put_second-first.ensures.rearranged.same.0 l h)

pub returns-then-lit_is_true-clause-found : goal.returns-then-lit_is_true-clause-found
returns-then-lit_is_true-clause-found g c =
    let p = c.put_second-first.ensures in
    (p.rearranged, p.pair, p.first, p.second, c.if-lit_is_true.ensures.0 refl, p.same)

pub returns-in-Some-clause-found : goal.returns-in-Some-clause-found
returns-in-Some-clause-found g c =
    let p = c.put_second-first.ensures in (
      rearranged-trans c.args.lits.now c.put_second-first.new.lits c.find_other.new.lits p.rearranged c.find_other.ensures.rearranged,
      p.pair,
      c.find_other.ensures.first ∙ p.first,
      c.in-Some.ensures.found.0,
      (λ t. let b = c.if-lit_is_true.ensures.1 t in cc),
      c.in-Some.ensures.found.1,
    )

pub lit_is_true-requires : goal.lit_is_true-requires
lit_is_true-requires g c = grind (arith, common_steps)

pub lit_is_false-requires : goal.lit_is_false-requires
lit_is_false-requires g c = grind (arith, common_steps)

pub returns-then-lit_is_false-clause-found : goal.returns-then-lit_is_false-clause-found
returns-then-lit_is_false-clause-found g c = grind (arith, common_steps)

pub returns-else-lit_is_false-clause-found : goal.returns-else-lit_is_false-clause-found
returns-else-lit_is_false-clause-found g c = grind (arith, common_steps)
