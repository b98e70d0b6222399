use Rattle.varisat_database.proofs.ListLemmas.{item_at}
use Rattle.varisat_rules.proofs.NotingLemmas.{noted_none, noted_next, noted_all}
use Rattle.varisat_rules.proofs.positions.note_all.Goals as goal

pub loop-index-init : goal.loop-index-init
loop-index-init g c = noted_none c.args.names.now c.args.positions.now c.args.clause.now

pub loop-index-preserved : goal.loop-index-preserved
loop-index-preserved g c =
    noted_next c.args.names.now c.loop-index.positions c.note.new.positions c.args.clause.now c.loop-index.index c.index-clause-index.result
    c.loop-index-test.true
    (item_at c.args.clause.now c.loop-index.index c.index-clause-index.result c.loop-index-test.true c.index-clause-index.is)
    c.note.ensures c.loop-index.invariant

pub returns : goal.returns
returns g c = noted_all c.args.names.now c.loop-index.positions c.args.clause.now c.loop-index.index c.loop-index-test.false c.loop-index.invariant
