use Rattle.varisat_formula.proofs.TokenBytes.{grown_below}
use Rattle.varisat_formula.proofs.dimacs.token.grown.Goals as goal

pub returns-then-next-lt18446744073709551616 : goal.returns-then-next-lt18446744073709551616
returns-then-next-lt18446744073709551616 c =
    rw (c.from.ensures, c.from-2.ensures)
    (grown_below c.args.number c.args.digit c.if-number-eq0.false (rw c.from.ensures at (rw c.from-2.ensures at c.if-next-lt18446744073709551616.true)))
