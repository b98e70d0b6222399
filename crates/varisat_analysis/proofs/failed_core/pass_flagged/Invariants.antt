use Rattle.varisat_analysis.proofs.failed_core.pass_flagged.Given as goal

abbrev pub ghost-flag_causes : goal.ghost-flag_causes
ghost-flag_causes g a = g.s
