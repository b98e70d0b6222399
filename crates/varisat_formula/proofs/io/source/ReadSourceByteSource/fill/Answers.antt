use Rattle.std.proofs.Common.{ap, arith}
use Rattle.std.proofs.lemmas.Bool.Decides.{nat_tests}
use Rattle.varisat_formula.proofs.io.source.ReadSourceByteSource.fill.Goals as goal

pub returns-then-not-is_empty-clause-ends : goal.returns-then-not-is_empty-clause-ends
returns-then-not-is_empty-clause-ends g c =
    let none = c.if-count-gt0.false in
    let some = c.if-not-is_empty.ensures in
    grind (arith, nat_tests, none, some)

pub returns-then-count-gt0-clause-quiet : goal.returns-then-count-gt0-clause-quiet
returns-then-count-gt0-clause-quiet g c = ap (λ s. s.faults) c.self.view_is

pub returns-then-count-gt0-clause-gives : goal.returns-then-count-gt0-clause-gives
returns-then-count-gt0-clause-gives g c = rw (← c.self.view_is) c.then-self-inside.ensures
