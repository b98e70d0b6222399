use Rattle.std.proofs.Common.{length, false, ap, ◌∙◌, arith}
use Rattle.varisat_clause.specs.Headers.{Header}
use Rattle.varisat_clause.proofs.DatabaseTracks.{long-at}
use Rattle.varisat_clause.proofs.CollectedClauses.{copied-adds}
use Rattle.varisat_clause.proofs.collect.copy_clause.Goals as goal

pub add_clause-requires-clause-long : goal.add_clause-requires-clause-long
add_clause-requires-clause-long g c =
    let l = long-at c.args.alloc.now c.args.cref c.requires.sound c.requires.place in
    let e = ap length c.lits.ensures in
    omega (arith, l.0, e)

pub returns-in-Ok-clause-copied : goal.returns-in-Ok-clause-copied
returns-in-Ok-clause-copied g c live =
    copied-adds c.args.alloc.now c.args.new_alloc.now c.add_clause.new.alloc c.args.cref c.in-Ok.field-0 c.set_mark.new.self c.lits.result.now
    c.requires.sound c.requires.place (c.set_mark.ensures ∙ ap (λ (x : Header). record x { mark = false }) c.header-header.ensures)
    c.lits.ensures c.in-Ok.ensures.added
