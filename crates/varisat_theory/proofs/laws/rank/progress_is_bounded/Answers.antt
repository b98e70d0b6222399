use Rattle.varisat_theory.proofs.bounds.CallBounds.{progress_start, progress_rises, progress_restarts, progress_within, progress_bound}
use Rattle.varisat_theory.proofs.laws.rank.progress_is_bounded.Goals as goal

pub returns : goal.returns
returns c = (progress_start, progress_rises, progress_restarts, progress_within, progress_bound)
