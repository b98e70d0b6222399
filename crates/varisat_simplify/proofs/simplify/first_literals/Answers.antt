use Rattle.std.proofs.Common.{arith, refl, length, ◌<◌}
use Rattle.varisat_simplify.proofs.CountLemmas.{counts_next}
use Rattle.varisat_simplify.proofs.simplify.first_literals.Goals as goal

pub loop-place-preserved : goal.loop-place-preserved
loop-place-preserved g c =
    let a = c.loop-place-test.true in
    let b = c.requires in
    let h : c.loop-place.place < length c.args.db.now.clauses = omega (arith, a, b) in
    counts_next c.args.db.now.clauses c.loop-place.place c.loop-place.sum c.saturating_add-sum.result (length c.clause.result.now) c.clause.result.now h
    c.clause.ensures refl c.saturating_add-sum.ensures c.loop-place.invariant
