use Rattle.std.proofs.Common.{arith, ◌<◌, length}
use Rattle.varisat_database.proofs.ListLemmas.{item_at}
use Rattle.varisat_database.proofs.ListLemmas.{grows_self, grows_then, grows_added, listed_none, listed_more, listed_all}
use Rattle.varisat_database.proofs.occurrences.Occurrences.add_all.Goals as goal

pub loop-lit-init : goal.loop-lit-init
loop-lit-init g c = record { grows = grows_self c.args.self.now; listed = listed_none c.args.names.now c.args.self.now c.args.lits.now c.args.place }

pub returns-then-code-len-clause-grows : goal.returns-then-code-len-clause-grows
returns-then-code-len-clause-grows g c = c.loop-lit.invariant.grows

pub loop-lit-preserved : goal.loop-lit-preserved
loop-lit-preserved g c =
    let at = item_at c.args.lits.now c.loop-lit.lit-index c.lit-item.result c.loop-lit-test.true c.lit-item.is in
    let a = c.code.ensures.code in
    let b = c.len.ensures in
    let d = c.if-code-len.false in
    let h : c.of-short.result < length c.loop-lit.self = omega (arith, a, b, d) in
    record {
      grows = grows_then c.args.self.now c.loop-lit.self c.add.new.self c.loop-lit.invariant.grows
          (grows_added c.loop-lit.self c.add.new.self c.of-short.result c.args.place h (c.in_ok-add.ensures {u = tt}).ok);
      listed = listed_more c.args.names.now c.loop-lit.self c.add.new.self c.args.lits.now c.loop-lit.lit-index c.lit-item.result c.of-short.result c.args.place at c.of-short.ensures h
          (c.in_ok-add.ensures {u = tt}).ok c.loop-lit.invariant.listed;
    }

pub returns-clause-ok : goal.returns-clause-ok
returns-clause-ok g c = listed_all c.args.names.now c.loop-lit.self c.args.lits.now c.loop-lit.lit-index c.args.place c.loop-lit-test.false c.loop-lit.invariant.listed
