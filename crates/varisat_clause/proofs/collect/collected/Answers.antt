use Rattle.std.proofs.lemmas.Grind.{common_steps}
use Rattle.std.proofs.Common.{arith}
use Rattle.varisat_clause.proofs.DatabaseTracks.{garbage-small}
use Rattle.varisat_clause.proofs.CollectedClauses.{copied-next}
use Rattle.varisat_clause.proofs.collect.collected.Goals as goal

pub overflow_sub-words : goal.overflow_sub-words
overflow_sub-words g c =
    let b = garbage-small c.args.db.now c.args.alloc.now c.requires.tracks in
    omega (arith, b, c.garbage.ensures, c.buffer_size.ensures)

pub clauses-preserved : goal.clauses-preserved
clauses-preserved g c =
    copied-next c.args.alloc.now c.clauses.new_alloc c.copy_clause.new.new_alloc c.clauses.new_db c.copy_clause.new.new_db c.clauses.index
    c.place.result (omega arith) c.place.ensures.place c.clauses.invariant (c.in_ok-copy_clause.ensures.copied)
    (c.in_ok-copy_clause.ensures.passed_over) c.in_ok-copy_clause.ensures.tracks

pub returns : goal.returns
returns g c = grind (arith, common_steps)
