use Rattle.std.proofs.Common.{ap₂, ◌∙◌, subst}
use Rattle.varisat_theory.specs.promises.Membership.{◌∈◌}
use Rattle.varisat_theory.specs.promises.Literals.{variable_of}
use Rattle.varisat_names.specs.promises.Maps.{chain}
use Rattle.varisat_names.specs.promises.VarMap.{at}
use Rattle.varisat_solver.proofs.solving.name_core.Goals as goal

pub carry_literals-requires : goal.carry_literals-requires
carry_literals-requires g c l h =
    let (u, e) = c.requires l (subst (λ ls. l ∈ ls) c.failed_core.ensures h) in
    (u, ap₂ (λ a b. chain (at a) (at b) (variable_of l)) c.global_from_solver.ensures c.user_from_global.ensures ∙ e)
