use Rattle.std.proofs.Common.{arith}
use Rattle.varisat_rules.proofs.ExtendLemmas.{extended_next}
use Rattle.varisat_rules.proofs.stack.extend.Goals as goal

pub loop-k-preserved : goal.loop-k-preserved
loop-k-preserved g c = record {
  within = let h = c.loop-k.invariant.within in omega (arith, h);
  so_far = extended_next c.args.stack.now c.loop-k.k c.clause.result.now c.loop-k.values c.args.values.now c.amend.new.values c.loop-k-test.true
      c.loop-k.invariant.within c.clause.ensures c.loop-k.invariant.so_far c.amend.ensures;
}
