use Rattle.std.proofs.Common.{arith}
use Rattle.varisat_prop.proofs.pairs.ShortLists.{short_few}
use Rattle.varisat_prop.proofs.short.ShortList.clear.Goals as goal

pub returns : goal.returns
returns g c = short_few 3 c.self.inside.few c.clear.new.self.items 0 (omega arith)
