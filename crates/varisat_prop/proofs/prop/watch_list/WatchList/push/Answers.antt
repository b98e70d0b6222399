use Rattle.std.proofs.Common.{◌<◌, arith}
use Rattle.std.proofs.lemmas.Grind.{common_steps}
use Rattle.varisat_prop.proofs.pairs.ShortLists.{short_pushed}
use Rattle.varisat_prop.proofs.prop.watch_list.WatchList.push.Goals as goal

pub returns-then-len-capacity : goal.returns-then-len-capacity
returns-then-len-capacity g c =
    let s = c.self.inside in
    let h : 2 < s.count = grind (arith, common_steps) in
    rw (← c.self.view_is) (short_pushed 2 s.few s.many.items c.push_reserved.new.self.items s.count c.args.watch h c.push_reserved.ensures.items)
