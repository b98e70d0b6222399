use Rattle.varisat_theory.proofs.bounds.Luby.{small_run_any}
use Rattle.varisat_theory.proofs.laws.luby.small_terms_sum.Goals as goal

pub returns : goal.returns
returns c = small_run_any
