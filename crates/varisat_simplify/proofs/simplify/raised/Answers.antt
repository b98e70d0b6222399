use Rattle.std.proofs.Common.{arith}
use Rattle.varisat_simplify.proofs.UnloadLemmas.{below_at, all_below, places_below}
use Rattle.varisat_simplify.proofs.simplify.raised.Goals as goal

pub loop-lit-preserved : goal.loop-lit-preserved
loop-lit-preserved c = record {
  below = places_below c.loop-lit.most c.raised_by-most.result c.lit-item.result c.loop-lit.lit-index c.args.clause.now c.loop-lit-test.true c.lit-item.is
      c.raised_by-most.ensures.below c.loop-lit.invariant.below;
  more = let a = c.loop-lit.invariant.more in let b = c.raised_by-most.ensures.below.1 in omega (arith, a, b);
  least = λ n b h. c.raised_by-most.ensures.least n
      (below_at n c.args.clause.now c.loop-lit.lit-index c.lit-item.result b c.loop-lit-test.true c.lit-item.is) (c.loop-lit.invariant.least n b h);
  small = c.raised_by-most.ensures.small;
}

pub returns-clause-below : goal.returns-clause-below
returns-clause-below c = (
  all_below c.loop-lit.most c.args.clause.now (λ k h. let e = c.loop-lit-test.false in c.loop-lit.invariant.below k (omega (arith, h, e))),
  c.loop-lit.invariant.more,
)
