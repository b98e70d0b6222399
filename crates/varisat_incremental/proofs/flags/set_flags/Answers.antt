use Rattle.varisat_database.proofs.ListLemmas.{item_at}
use Rattle.varisat_incremental.proofs.FlagLemmas.{next-flagged}
use Rattle.varisat_incremental.proofs.flags.set_flags.Goals as goal

pub loop-lit-preserved : goal.loop-lit-preserved
loop-lit-preserved g c =
    let sets = c.in_ok-set_flag.ensures {u = tt} in
    let at = item_at c.args.lits.now c.loop-lit.lit-index c.lit-item.result c.loop-lit-test.true c.lit-item.is in
    record {
      keeps = λ v h. sets.keeps v (c.loop-lit.invariant.keeps v h);
      sets = next-flagged c.loop-lit.flags.items c.set_flag.new.flags.items c.args.lits.now c.loop-lit.lit-index c.lit-item.result at sets.keeps sets.sets
          c.loop-lit.invariant.sets;
    }
