use Rattle.std.proofs.Common.{◌≡◌, ◌<◌, ◌≤◌, ◌++◌, ◌∷◌, [], length, arith}
use Rattle.std.proofs.lemmas.Grind.{common_steps}
use Rattle.varisat_prop.proofs.pairs.ShortLists.{short_pushed, short_put, short_moved}
use Rattle.varisat_prop.proofs.prop.watch_list.WatchList.push_out_of_line.Goals as goal

pub returns-then-count-lt-FEW : goal.returns-then-count-lt-FEW
returns-then-count-lt-FEW g c =
    let s = c.self.inside in
    let f : s.count < 2 = grind (arith, common_steps) in
    let h : s.count < length s.few = grind (arith, common_steps) in
    rw (← c.self.view_is) (short_put 2 s.few s.many.items s.count c.args.watch f h)

pub returns-then-count-gt-FEW : goal.returns-then-count-gt-FEW
returns-then-count-gt-FEW g c =
    let s = c.self.inside in
    let h : 2 < s.count = grind (arith, common_steps) in
    rw (← c.self.view_is) (short_pushed 2 s.few s.many.items c.push.new.self.items s.count c.args.watch h c.in_ok-push.ensures.items)

pub returns : goal.returns
returns g c =
    let s = c.self.inside in
    let t : s.count ≡ 2 = grind (arith, common_steps) in
    let h : length s.few ≤ s.count = grind (arith, common_steps) in
    let n : c.push-2.new.self.items ≡ s.few ++ c.args.watch ∷ [] = grind (arith, common_steps) in
    rw (← c.self.view_is) (short_moved 2 s.few s.many.items c.push-2.new.self.items s.count c.args.watch t h n)
