use Rattle.std.proofs.Common.{arith}
use Rattle.varisat_names.proofs.NumberSets.{clear-bit, clear-none}
use Rattle.varisat_names.proofs.variables.number_set.NumberSet.remove.Goals as goal

pub returns-then-place-len : goal.returns-then-place-len
returns-then-place-len g c =
    let h = c.if-place-len.true in
    let l = c.len.ensures in
    rw (← c.self.view_is)
    (clear-bit c.self.inside.words.items c.args.number c.index_mut.result.now (omega (arith, h, l)) c.index_mut.ensures.value)

pub returns-else-place-len : goal.returns-else-place-len
returns-else-place-len g c =
    let h = c.if-place-len.false in
    let l = c.len.ensures in
    rw (← c.self.view_is) (clear-none c.self.inside.words.items c.args.number (omega (arith, h, l)))
