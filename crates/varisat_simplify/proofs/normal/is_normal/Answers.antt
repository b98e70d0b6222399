use Rattle.std.proofs.Common.{take, arith}
use Rattle.std.proofs.lemmas.List.{length-take-le}
use Rattle.varisat_database.proofs.ListLemmas.{item_at}
use Rattle.varisat_rules.proofs.NotingLemmas.{noted_none}
use Rattle.varisat_simplify.proofs.NormalLemmas.{distinct_none, once_before, noted_before}
use Rattle.varisat_simplify.proofs.normal.is_normal.Goals as goal

pub loop-index-init : goal.loop-index-init
loop-index-init g c = (distinct_none c.args.clause.now, λ t. noted_none c.args.names.now c.args.positions.now c.args.clause.now)

pub loop-index-preserved : goal.loop-index-preserved
loop-index-preserved g c =
    let h = c.loop-index-test.true in
    let at = item_at c.args.clause.now c.loop-index.index c.index-clause-index.result h c.index-clause-index.is in (
      once_before c.args.clause.now c.loop-index.index c.index-clause-index.result h at (c.in-Absent.ensures {u = tt}) c.loop-index.invariant.0,
      λ t. noted_before c.args.names.now c.note_if.new.positions c.args.clause.now c.loop-index.index c.index-clause-index.result h at
          (c.note_if.ensures (take c.loop-index.index c.args.clause.now) (length-take-le c.loop-index.index c.args.clause.now (omega (arith, h)))
          c.loop-index.invariant.1 t),
    )
