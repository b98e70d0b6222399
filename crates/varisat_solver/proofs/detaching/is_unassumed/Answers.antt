use Rattle.std.proofs.Common.{sym, ap, ◌∙◌}
use Rattle.varisat_names.specs.promises.VarMap.{at}
use Rattle.varisat_names.proofs.Tables.{live-inside}
use Rattle.varisat_solver.proofs.detaching.is_unassumed.Goals as goal

pub var_data_global-requires : goal.var_data_global-requires
var_data_global-requires g c =
    let t = c.args.variables.now in
    let x = c.in-Some.global in
    let link = c.prove_linked.ensures in
    live-inside t.kept x (link.taken x c.args.solver
    (link.solvers.back x c.args.solver (ap (λ m. at m c.args.solver) (sym c.global_from_solver.ensures) ∙ sym c.get.ensures ∙ c.in-Some.is)))
