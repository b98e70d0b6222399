use Rattle.std.proofs.Common.{refl, ap}
use Rattle.varisat_formula.specs.promises.Formulas.{Formula}
use Rattle.varisat_client.proofs.Moving.{is-new}
use Rattle.varisat_client.proofs.client.Client.new_in.Goals as goal

pub returns : goal.returns
returns g c =
    is-new _ refl c.new_solver.ensures (ap (λ (f : Formula). f.clauses) c.new_in.ensures) c.new_in-2.ensures refl refl c.new.ensures.items c.new-2.ensures.items
    c.new-3.ensures.items c.new_in-3.ensures c.new_in-4.ensures
