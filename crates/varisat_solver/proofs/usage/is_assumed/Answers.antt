use Rattle.std.proofs.Common.{rules, sym, ap, ◌∙◌}
use Rattle.varisat_names.specs.promises.VarMap.{at}
use Rattle.varisat_names.proofs.Tables.{named-inside}
use Rattle.varisat_solver.proofs.usage.is_assumed.Goals as goal

pub var_data_global-requires : goal.var_data_global-requires
var_data_global-requires g c = named-inside c.args.variables.now c.args.var c.in-Some.global c.prove_linked.ensures
    (sym (c.in-Some.ensures ∙ ap (λ m. at m c.args.var) c.global_from_user.ensures))

pub returns-in-Some : goal.returns-in-Some
returns-in-Some g c = search rules
