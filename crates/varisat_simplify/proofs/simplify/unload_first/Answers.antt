use Rattle.std.proofs.Common.{arith, length, ◌<◌}
use Rattle.varisat_simplify.proofs.UnloadLemmas.{first_next}
use Rattle.varisat_simplify.proofs.simplify.unload_first.Goals as goal

pub loop-place-preserved : goal.loop-place-preserved
loop-place-preserved g c =
    let a = c.loop-place-test.true in
    let b = c.requires in
    let h : c.loop-place.place < length c.args.db.now.clauses = omega (arith, a, b) in
    first_next c.loop-place.formula c.add_clause.new.self c.args.db.now.var_count c.args.db.now.clauses c.loop-place.place c.clause.result.now h
    (c.in_ok-add_clause.ensures {u = tt}) c.clause.ensures c.loop-place.invariant
