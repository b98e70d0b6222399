use Rattle.std.proofs.Common.{◌∙◌, length, ap, arith}
use Rattle.varisat_formula.proofs.ValueLemmas.{length-model}
use Rattle.varisat_client.proofs.client.Client.extended.Goals as goal

pub literals_of-requires : goal.literals_of-requires
literals_of-requires g c =
    let a = c.deref.ensures.len in
    let b = ap length (c.in_ok-values.ensures {u = tt}) ∙ length-model c.self.inside.var_count c.args.list.now in
    let d = c.self.invariant in
    let e = c.in_ok-values.values.ok in
    omega (arith, a, b, d, e)
