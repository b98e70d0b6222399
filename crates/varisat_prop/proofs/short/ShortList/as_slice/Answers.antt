use Rattle.std.proofs.Common.{◌<◌, ◌≤◌, ◌∙◌, sym, arith}
use Rattle.std.proofs.lemmas.Grind.{common_steps}
use Rattle.varisat_prop.proofs.pairs.ShortLists.{short_few, short_many}
use Rattle.varisat_prop.proofs.short.ShortList.as_slice.Goals as goal

pub returns-then-count-le-FEW : goal.returns-then-count-le-FEW
returns-then-count-le-FEW g c =
    let s = c.self.inside in
    let h : s.count ≤ 3 = grind (arith, common_steps) in
    rw (← c.self.view_is) (sym (short_few 3 s.few s.many.items s.count h))

pub returns : goal.returns
returns g c =
    let s = c.self.inside in
    let h : 3 < s.count = grind (arith, common_steps) in
    rw (← c.self.view_is) (c.as_slice.ensures.value ∙ sym (short_many 3 s.few s.many.items s.count h))
