use Rattle.std.proofs.Common.{take, drop}
use Rattle.varisat_names.specs.promises.Maps.{chain}
use Rattle.varisat_names.specs.promises.VarMap.{at}
use Rattle.varisat_search.specs.Contexts.{KeepsSchedule}
use Rattle.varisat_search.specs.SolverVariables.{HasRoomFor, HasVariables, HaveSolversInTurn, AreOver}
use Rattle.varisat_search.proofs.solver_variables.solver_from_user_lits.Given as goal

abbrev pub invariant-loop-lit : goal.invariant-loop-lit
invariant-loop-lit g l = record {
  variables : HasVariables (record { tables = l.variables; context = l.ctx });
  room : HasRoomFor (drop l.lit-index l.user_lits) l.variables;
  in_turn : HaveSolversInTurn (take l.lit-index l.user_lits) (record { tables = l.fn.variables; context = l.fn.ctx })
      (record { tables = l.variables; context = l.ctx });
  literals : AreOver (chain (at l.variables.users.forward) (at l.variables.solvers.forward)) (take l.lit-index l.user_lits) l.solver_lits.items;
  schedule : KeepsSchedule l.fn.ctx l.ctx;
}
