use Rattle.std.proofs.lemmas.Grind.{common_steps}
use Rattle.std.proofs.Common.{ℕ, List, take, length, ap, ◌∙◌, arith}
use Rattle.varisat_prop.proofs.views.ReadElements.{item-∈}
use Rattle.varisat_search.specs.Simplifications.{with_pairs}
use Rattle.varisat_search.proofs.simplifying.SimplifiedKept.{longer-pair, joined-count, joined-on, next-taken}
use Rattle.varisat_search.proofs.replace.add_pairs.Goals as goal

pub add_binary_clause-requires-clause-first : goal.add_binary_clause-requires-clause-first
add_binary_clause-requires-clause-first g c =
    let q = c.requires c.pair-item.result (item-∈ c.args.pairs.now c.loop-pair.pair-index c.pair-item.result c.loop-pair-test.true c.pair-item.is) in
    omega (arith, q.first, c.loop-pair.invariant.count)

pub add_binary_clause-requires-clause-second : goal.add_binary_clause-requires-clause-second
add_binary_clause-requires-clause-second g c =
    let q = c.requires c.pair-item.result (item-∈ c.args.pairs.now c.loop-pair.pair-index c.pair-item.result c.loop-pair-test.true c.pair-item.is) in
    omega (arith, q.second, c.loop-pair.invariant.count)

pub loop-pair-preserved : goal.loop-pair-preserved
loop-pair-preserved g c =
    let B = c.args.binary_clauses.now in
    let C = c.loop-pair.binary_clauses in
    let v = c.pair-item.result in
    let i = c.loop-pair.pair-index in
    let n = c.loop-pair.invariant.count in
    let q = longer-pair B C v n (c.requires v (item-∈ c.args.pairs.now i v c.loop-pair-test.true c.pair-item.is)) in
    let e = c.in_ok-add_binary_clause.ensures in
    record {
      joined = e ∙ joined-on B C (take i c.args.pairs.now) v c.loop-pair.invariant.joined
          ∙ ap (with_pairs B) (next-taken c.args.pairs.now i v c.loop-pair-test.true c.pair-item.is);
      count = ap (λ (D : List (List ℕ)). length D) e ∙ joined-count C v q ∙ n;
    }

pub returns : goal.returns
returns g c = grind (arith, common_steps)
