use Rattle.std.proofs.Common.{sym, ap, ◌∙◌, subst, refl}
use Rattle.varisat_names.specs.promises.VarMap.{at}
use Rattle.varisat_names.specs.promises.VarData.{data_at}
use Rattle.varisat_names.specs.promises.VarBiMap.{turned}
use Rattle.varisat_names.specs.promises.Variables.{AreLinked, AreListed}
use Rattle.varisat_names.proofs.Linked.{join-solvers, joined-turned, same-tables, on-either}
use Rattle.varisat_names.proofs.variables.linked.LinkedVariables.take_solver_var.Goals as goal

pub invariant_of-self : goal.invariant_of-self
invariant_of-self g c =
    let w = c.self-inside.view_is in
    let (linked, listed) = subst (λ s. AreLinked s.variables.tables × AreListed s.variables) (sym w) c.self.invariant in
    let solver = c.next_unmapped_solver-solver.result in
    let live = ap (λ s. (data_at s.variables.tables.kept c.args.global).deleted) w ∙ ap (λ t. (data_at t.kept c.args.global).deleted) c.self.view_is
    ∙ c.requires.live in
    let untaken = ap (λ s. at s.variables.tables.solvers.forward c.args.global) w ∙ ap (λ t. at t.solvers.forward c.args.global) c.self.view_is
    ∙ c.requires.free in
    let free = ap (λ s. at s.variables.tables.solvers.backward solver) w ∙ c.next_unmapped_solver-solver.ensures.least.0 in (
      on-either c.give.result c.give.ensures.joined c.give.ensures.refused
          (λ j. join-solvers _ (turned c.give.new.self.pairs) c.args.global solver linked live untaken free
          (joined-turned _ c.give.new.self.pairs solver c.args.global j))
          (λ r. same-tables _ _ (turned c.give.new.self.pairs) _ refl (ap turned r) refl linked),
      record { users = listed.users; solvers = c.give.ensures.listed; globals = listed.globals },
    )
