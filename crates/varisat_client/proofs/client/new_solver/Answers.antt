-- A new solver does not refuse the settings.
use Rattle.std.proofs.Common.{Some, false, refl, subst}
use Rattle.varisat_names.specs.declared.config.SolverConfigUpdate.{SolverConfigUpdate}
use Rattle.varisat_solver.specs.promises.States.{State, empty_state}
use Rattle.varisat_solver.specs.inside.Representations.{Represents}
use Rattle.varisat_solver.specs.promises.Calls.{Configures}
use Rattle.varisat.proofs.ProgramDecides.{takes-update}
use Rattle.varisat_client.specs.inside.Clients.{client_update}
use Rattle.varisat_client.proofs.client.new_solver.Goals as goal

pub returns : goal.returns
returns g c =
    let (s, a, x) = c.config.ensures empty_state c.new_in-solver.ensures in
    let b = subst
    (λ (u : SolverConfigUpdate). Configures empty_state
    (record u { reduce_locals_interval = Some 2000; luby_restart_interval_scale = Some 64 }) c.config.result s) c.new-update.ensures a in
    subst (λ (o : State). Represents c.config.new.self o) (takes-update false client_update c.config.result s refl b) x
