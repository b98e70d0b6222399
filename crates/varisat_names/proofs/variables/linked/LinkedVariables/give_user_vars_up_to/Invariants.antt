use Rattle.std.proofs.Common.{length}
use Rattle.varisat_names.proofs.Tables.{AreGivenUpTo}
use Rattle.varisat_names.proofs.variables.linked.LinkedVariables.give_user_vars_up_to.Given as goal

abbrev pub invariant-loop-index : goal.invariant-loop-index
invariant-loop-index g l = AreGivenUpTo (length l.fn.self.users.forward) l.fn.user l.fn.self l.self l.index
