use Rattle.std.proofs.Common.{length, ap, arith}
use Rattle.varisat_names.specs.inside.Entries.{entry}
use Rattle.varisat_names.proofs.Entries.{length-entries}
use Rattle.varisat_names.proofs.variables.var_map.VarMap.prove_small.Goals as goal

pub returns : goal.returns
returns g c =
    let l = length-entries (entry c.self.inside.own c.self.inside.codes) c.self.inside.watermark in
    let e = ap length c.self.view_is in
    let small = c.self.invariant.0.small in
    omega (arith, l, e, small)
