use Rattle.std.proofs.Common.{◌≡◌, ℕ, ◌+◌, suc, ap, ◌∙◌, arith}
use Rattle.varisat_vsids.specs.Activities.{Activities, decayed}
use Rattle.varisat_search.specs.Learning.{decayed_further}
use Rattle.varisat_search.proofs.bumps.decay_times.Goals as goal

-- one decay more
decayed-next : (k : ℕ) (a b : Activities) → b ≡ decayed (decayed_further k a) → b ≡ decayed_further (k + 1) a
decayed-next k a b h = let e : suc k ≡ k + 1 = omega arith in h ∙ ap (λ n. decayed_further n a) e

pub loop-done-preserved : goal.loop-done-preserved
loop-done-preserved g c =
    let i = c.loop-done.invariant in
    record {
      decayed = decayed-next c.loop-done.done c.args.vsids.now c.decay.new.self (c.decay.ensures.decayed ∙ ap decayed i.decayed);
      within = omega (arith, c.loop-done-test.true);
      count = c.decay.ensures.count ∙ i.count;
    }

pub returns-clause-decayed : goal.returns-clause-decayed
returns-clause-decayed g c =
    let i = c.loop-done.invariant in
    let e : c.loop-done.done ≡ c.args.times = omega (arith, i.within, c.loop-done-test.false) in
    i.decayed ∙ ap (λ n. decayed_further n c.args.vsids.now) e

pub returns-clause-count : goal.returns-clause-count
returns-clause-count g c = c.loop-done.invariant.count
