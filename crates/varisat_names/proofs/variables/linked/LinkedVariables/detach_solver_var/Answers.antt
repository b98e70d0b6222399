use Rattle.std.proofs.lemmas.Grind.{common_steps}
use Rattle.std.proofs.Common.{sym, ap, ◌∙◌, refl, arith}
use Rattle.varisat_names.specs.promises.VarMap.{at}
use Rattle.varisat_names.specs.promises.VarBiMap.{turned}
use Rattle.varisat_names.proofs.Tables.{live-inside}
use Rattle.varisat_names.proofs.Linked.{free-solvers, part-solvers, parted-turned, same-tables, on-either, on-either-two, unused-none}
use Rattle.varisat_names.proofs.LinkedCalls.{begun, taken-before, taken-live}
use Rattle.varisat_names.proofs.variables.linked.LinkedVariables.detach_solver_var.Goals as goal

pub data-kept-requires : goal.data-kept-requires
data-kept-requires g c = live-inside _ c.unwrap-global.result
    (taken-live (ap (λ s. s.variables) c.self-inside.view_is) c.self.invariant c.unwrap-global.result c.args.solver c.global_from_solver.ensures
    c.get.ensures c.unwrap-global.ensures)

pub free_and_retire-requires-clause-live : goal.free_and_retire-requires-clause-live
free_and_retire-requires-clause-live g c = taken-live (ap (λ s. s.variables) c.self-inside.view_is) c.self.invariant c.unwrap-global.result
    c.args.solver c.global_from_solver.ensures c.get.ensures c.unwrap-global.ensures

pub invariant_of-self : goal.invariant_of-self
invariant_of-self g c =
    let w = c.self-inside.view_is in
    let same = ap (λ s. s.variables) w in
    let (linked, listed) = begun same c.self.invariant in
    let x = c.unwrap-global.result in
    let v = c.args.solver in
    let back = taken-before same c.self.invariant c.unwrap-global.result c.args.solver c.global_from_solver.ensures c.get.ensures c.unwrap-global.ensures in
    let unnamed = ap (λ s. at s.variables.tables.users.backward x) w ∙ ap (λ m. at m x) (sym c.user_from_global.ensures) ∙ sym c.get-user.ensures
    ∙ unused-none c.get-user.result c.data-kept.result (sym c.is_unused.ensures ∙ c.if-is_unused.true) in
    let solvers = c.free_and_retire.new.names.pairs in
    let kept = c.free_and_retire.new.globals.kept in
    let done = c.free_and_retire.ensures in (
      on-either-two c.free_and_retire.result done.parted done.dead done.names_refused done.globals_refused
          (λ p k. free-solvers _ (turned solvers) kept x v linked back unnamed (parted-turned _ solvers v x p) k)
          (λ p k. same-tables _ _ (turned solvers) kept refl (ap turned p) k linked),
      record { users = listed.users; solvers = done.listed; globals = done.deleted },
    )

pub invariant_of-self-2 : goal.invariant_of-self-2
invariant_of-self-2 g c =
    let same = ap (λ s. s.variables) c.self-inside.view_is in
    let (linked, listed) = begun same c.self.invariant in
    let back = taken-before same c.self.invariant c.unwrap-global.result c.args.solver c.global_from_solver.ensures c.get.ensures c.unwrap-global.ensures in
    let solvers = c.release.new.self.pairs in (
      on-either c.release.result c.release.ensures.parted c.release.ensures.refused
          (λ p. part-solvers _ (turned solvers) c.unwrap-global.result c.args.solver linked back
          (parted-turned _ solvers c.args.solver c.unwrap-global.result p))
          (λ r. same-tables _ _ (turned solvers) _ refl (ap turned r) refl linked),
      record { users = listed.users; solvers = c.release.ensures.listed; globals = listed.globals },
    )

pub returns-clause-dropped : goal.returns-clause-dropped
returns-clause-dropped g c = grind (arith, common_steps)
