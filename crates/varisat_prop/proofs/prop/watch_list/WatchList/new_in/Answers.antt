use Rattle.std.proofs.Common.{◌∷◌, [], arith}
use Rattle.varisat_prop.specs.declared.prop.watch_list.Watch.{Watch}
use Rattle.varisat_prop.proofs.pairs.ShortLists.{short_few}
use Rattle.varisat_prop.proofs.prop.watch_list.WatchList.new_in.Goals as goal

pub returns : goal.returns
returns g c =
    let w : Watch = record { cref = c.from_offset.result; blocking = c.from_code.result } in
    short_few 2 (w ∷ w ∷ []) c.new.result.items 0 (omega arith)
