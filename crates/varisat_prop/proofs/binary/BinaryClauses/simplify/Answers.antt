use Rattle.std.proofs.Common.{◌≡◌, [], get_or, subst, arith}
use Rattle.varisat_prop.specs.Simplified.{unassigned_implied}
use Rattle.varisat_prop.proofs.pairs.SimplifiedPairs.{lists-left}
use Rattle.varisat_prop.proofs.binary.BinaryClauses.simplify.Goals as goal

pub returns : goal.returns
returns g c =
    let inv = c.loop-code.invariant in
    let n = c.len-code-end.ensures in
    let past = c.loop-code-test.false in
    lists-left c.args.assignment.now.current c.args.self.now c.loop-code.self inv.count
    (λ k h. subst (λ values. get_or c.loop-code.self k [] ≡ unassigned_implied values k (get_or c.args.self.now k [])) c.assignment-values.ensures
    (inv.done k (omega (arith, h, n, past))))
