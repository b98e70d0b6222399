use Rattle.std.proofs.Common.{◌≡◌, ◌<◌, ◌≤◌, ◌++◌, ◌∷◌, [], length, arith}
use Rattle.std.proofs.lemmas.Grind.{common_steps}
use Rattle.varisat_prop.proofs.pairs.ShortLists.{short_pushed, short_put, short_moved}
use Rattle.varisat_prop.proofs.short.ShortList.push.Goals as goal

pub returns-then-count-lt-FEW : goal.returns-then-count-lt-FEW
returns-then-count-lt-FEW g c =
    let s = c.self.inside in
    let f : s.count < 3 = grind (arith, common_steps) in
    let h : s.count < length s.few = grind (arith, common_steps) in
    rw (← c.self.view_is) (short_put 3 s.few s.many.items s.count c.args.lit f h)

pub returns-then-count-gt-FEW : goal.returns-then-count-gt-FEW
returns-then-count-gt-FEW g c =
    let s = c.self.inside in
    let h : 3 < s.count = grind (arith, common_steps) in
    rw (← c.self.view_is) (short_pushed 3 s.few s.many.items c.push.new.self.items s.count c.args.lit h c.in_ok-push.ensures.items)

pub returns : goal.returns
returns g c =
    let s = c.self.inside in
    let t : s.count ≡ 3 = grind (arith, common_steps) in
    let h : length s.few ≤ s.count = grind (arith, common_steps) in
    let n : c.push-2.new.self.items ≡ s.few ++ c.args.lit ∷ [] = grind (arith, common_steps) in
    rw (← c.self.view_is) (short_moved 3 s.few s.many.items c.push-2.new.self.items s.count c.args.lit t h n)
