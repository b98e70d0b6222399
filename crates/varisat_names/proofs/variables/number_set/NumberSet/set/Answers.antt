use Rattle.std.proofs.Common.{length, ap, arith}
use Rattle.varisat_names.proofs.NumberSets.{set-bit}
use Rattle.varisat_names.proofs.variables.number_set.NumberSet.set.Goals as goal

pub returns : goal.returns
returns g c =
    let e = ap length c.self.view_is in
    let h = c.requires in
    rw (← c.self.view_is) (set-bit c.self.inside.words.items c.args.number c.index_mut.result.now (omega (arith, e, h)) c.index_mut.ensures.value)
