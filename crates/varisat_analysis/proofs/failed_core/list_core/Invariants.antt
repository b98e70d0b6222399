use Rattle.varisat_analysis.proofs.CoreWalk.{CoreWalk}
use Rattle.varisat_analysis.proofs.failed_core.list_core.Given as goal

abbrev pub ghost-flag_causes : goal.ghost-flag_causes
ghost-flag_causes g a = g.s

abbrev pub ghost-pass_flagged : goal.ghost-pass_flagged
ghost-pass_flagged g a = g.s

abbrev pub invariant-loop-place : goal.invariant-loop-place
invariant-loop-place g l = CoreWalk g.s l.fn.failed l.core.items l.flags l.place
