use Rattle.std.proofs.Common.{sym, arith}
use Rattle.varisat_names.proofs.NumberSets.{read-bit, past-words}
use Rattle.varisat_names.proofs.variables.number_set.NumberSet.contains.Goals as goal

pub returns-then-place-len : goal.returns-then-place-len
returns-then-place-len g c = rw (← c.self.view_is) (read-bit c.self.inside.words.items c.args.number c.index.result.now (let h = c.if-place-len.true in let l = c.len.ensures in omega (arith, h, l)) c.index.ensures)

pub returns-else-place-len : goal.returns-else-place-len
returns-else-place-len g c =
    let h = c.if-place-len.false in
    let l = c.len.ensures in
    rw (← c.self.view_is) (sym (past-words c.self.inside.words.items c.args.number (omega (arith, h, l))))
