use Rattle.std.proofs.Common.{◌-◌, ◌^◌, ◌/◌, ap, arith}
use Rattle.varisat_prop.proofs.pairs.CountedPairs.{counted-more, counted-all}
use Rattle.varisat_prop.proofs.binary.BinaryClauses.count.Goals as goal

pub lists-preserved : goal.lists-preserved
lists-preserved g c =
    counted-more (2 ^ 64 - 1) c.args.self.now c.lists.entries c.lists.place c.saturating_add-entries.result c.list.result.now
    (omega (arith, c.lists-test.true, c.len-place-end.ensures)) c.list.ensures c.saturating_add-entries.ensures c.lists.invariant

pub returns : goal.returns
returns g c =
    ap (λ n. n / 2) (counted-all (2 ^ 64 - 1) c.args.self.now c.lists.entries c.lists.place
    (omega (arith, c.lists-test.false, c.len-place-end.ensures)) c.lists.invariant (omega (arith, c.lists.auto.entries-fits)))
