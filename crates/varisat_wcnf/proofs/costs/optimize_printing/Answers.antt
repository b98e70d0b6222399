use Rattle.varisat_wcnf.proofs.Printing.{all-printed, part-printed}
use Rattle.varisat_wcnf.proofs.costs.optimize_printing.Goals as goal

pub returns-in-None : goal.returns-in-None
returns-in-None g c =
    let (found, improve, printed, said) = c.optimize_or_keep-found.ensures in
    let (bytes, faults, on) = all-printed _ found _ _ c.in-None.is printed in
    (found, improve, (bytes, faults, on, said))

pub returns-in-Some : goal.returns-in-Some
returns-in-Some g c =
    let (found, improve, printed, said) = c.optimize_or_keep-found.ensures in
    (found, improve, part-printed _ c.in-Some.error found _ _ c.in-Some.is printed)
