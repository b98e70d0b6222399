use Rattle.std.proofs.Common.{sym, subst}
use Rattle.varisat_calls.specs.Callers.{IsNewCaller}
use Rattle.varisat_c.proofs.caller_open.Goals as goal

pub returns-in-Ok-clause-new : goal.returns-in-Ok-clause-new
returns-in-Ok-clause-new c = rw (c.put.ensures) (subst IsNewCaller (sym c.in-Ok.ensures.ok) c.new_in.ensures)
