use Rattle.std.proofs.Common.{suc, arith}
use Rattle.std.proofs.Math.Nat.{pow-le-pow_right}
use Rattle.std.proofs.lemmas.Bool.{le-leb}
use Rattle.varisat_schedule.proofs.RestartPlans.{short-below}
use Rattle.varisat_schedule.proofs.schedule.Schedule.is_interval_short.Goals as goal

pub returns-then-variables-ge63 : goal.returns-then-variables-ge63
returns-then-variables-ge63 c =
    let p = pow-le-pow_right {n = 2} (omega arith) {i = 64} {j = suc c.args.variables} (omega (arith, c.if-variables-ge63.true)) in
    let s = c.self.invariant.small in
    rw (← c.self.view_is) (λ _. omega (arith, p, s), λ _. le-leb 63 c.args.variables c.if-variables-ge63.true)

pub returns-else-variables-ge63 : goal.returns-else-variables-ge63
returns-else-variables-ge63 c = rw (← c.self.view_is) (short-below c.self.inside.next_restart c.args.variables)
