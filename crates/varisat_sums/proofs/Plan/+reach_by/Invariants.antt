use Rattle.varisat_sums.proofs.Plan.+reach_by.Given as goal

abbrev pub decreases-reach_by : goal.decreases-reach_by
decreases-reach_by g l = l.levels
