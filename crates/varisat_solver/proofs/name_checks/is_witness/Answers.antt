use Rattle.std.proofs.Common.{rules, sym, ap, ◌∙◌}
use Rattle.varisat_names.specs.promises.VarMap.{at}
use Rattle.varisat_names.proofs.Tables.{named-inside}
use Rattle.varisat_solver.proofs.name_checks.is_witness.Goals as goal

pub var_data_global-requires : goal.var_data_global-requires
var_data_global-requires g c = named-inside c.args.variables.now c.args.user c.in-Some.global c.prove_linked.ensures
    (ap (λ m. at m c.args.user) (sym c.global_from_user.ensures) ∙ sym c.get.ensures ∙ c.in-Some.is)

pub returns-in-Witness : goal.returns-in-Witness
returns-in-Witness g c = search rules
