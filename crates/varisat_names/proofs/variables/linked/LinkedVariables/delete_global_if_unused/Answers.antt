use Rattle.std.proofs.Common.{sym, ap, ◌∙◌, refl}
use Rattle.varisat_names.specs.promises.VarMap.{at}
use Rattle.varisat_names.specs.promises.Variables.{Tables}
use Rattle.varisat_names.proofs.Linked.{keep-dead, same-tables, on-either, unused-none}
use Rattle.varisat_names.proofs.LinkedCalls.{begun}
use Rattle.varisat_names.specs.promises.VarData.{dead}
use Rattle.varisat_names.proofs.variables.linked.LinkedVariables.delete_global_if_unused.Goals as goal

pub invariant_of-self : goal.invariant_of-self
invariant_of-self g c =
    let w = c.self-inside.view_is in
    let (linked, listed) = begun (ap (λ s. s.variables) w) c.self.invariant in
    let x = c.args.global in
    let unnamed = ap (λ s. at s.variables.tables.users.backward x) w ∙ ap (λ (t : Tables). at t.users.backward x) c.self.view_is ∙ c.requires.unnamed in
    let untaken = ap (λ s. at s.variables.tables.solvers.forward x) w ∙ ap (λ m. at m x) (sym c.solver_from_global.ensures)
    ∙ sym c.get-solver.ensures ∙ unused-none c.get-solver.result c.data-kept.result (sym c.is_unused.ensures ∙ c.if-is_unused.true) in
    let kept = c.delete.new.self.kept in (
      on-either c.delete.result c.delete.ensures.deleted c.delete.ensures.refused
          (λ k. keep-dead _ kept x dead linked unnamed untaken k)
          (λ e. same-tables _ _ _ kept refl refl e linked),
      record { users = listed.users; solvers = listed.solvers; globals = c.delete.ensures.listed },
    )
