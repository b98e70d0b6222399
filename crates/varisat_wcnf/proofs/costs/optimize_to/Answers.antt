use Rattle.varisat_wcnf.proofs.Printing.{both-said}
use Rattle.varisat_wcnf.proofs.costs.optimize_to.Goals as goal

pub returns : goal.returns
returns g c =
    let (found, improve, (same, fault, printed), last) = c.optimize_within.ensures.taken in record {
      same_reference = same;
      same_fault = fault;
      printed = (found, improve, printed c.requires.none c.requires.countable, both-said c.optimize_within.result _ _ _ _ _ _ (λ e z on. z.1 (λ i. on (z.0.0 i))) c.optimize_within.ensures.answer last);
    }
