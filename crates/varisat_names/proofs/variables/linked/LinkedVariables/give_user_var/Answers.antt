use Rattle.std.proofs.Common.{sym, ap, ◌∙◌, subst, refl}
use Rattle.varisat_names.specs.promises.VarMap.{at}
use Rattle.varisat_names.specs.promises.VarData.{fresh, data_at, IsDataAt}
use Rattle.varisat_names.specs.promises.Variables.{AreLinked, AreListed}
use Rattle.varisat_names.proofs.Linked.{give-users, same-tables, same-deleted}
use Rattle.varisat_names.proofs.variables.linked.LinkedVariables.give_user_var.Goals as goal

pub invariant_of-self-in-Break-branch-2 : goal.invariant_of-self-in-Break-branch-2
invariant_of-self-in-Break-branch-2 g c =
    let w = c.self-inside.view_is in
    let (linked, listed) = subst (λ s. AreLinked s.variables.tables × AreListed s.variables) (sym w) c.self.invariant in (
      same-tables _ c.give.new.self.pairs _ c.reserve.new.self.kept c.in_err-give.ensures.refused refl c.reserve.ensures.kept linked,
      record {
        users = c.give.ensures.listed;
        solvers = listed.solvers;
        globals =
            same-deleted _ c.reserve.new.self.kept _ c.reserve.new.self.free c.reserve.ensures.kept c.reserve.ensures.free listed.globals;
      },
    )

pub invariant_of-self-2 : goal.invariant_of-self-2
invariant_of-self-2 g c =
    let w = c.self-inside.view_is in
    let (linked, listed) = subst (λ s. AreLinked s.variables.tables × AreListed s.variables) (sym w) c.self.invariant in
    let global = c.next_unmapped_global-global.result in
    let unused = ap (λ s. (data_at s.variables.tables.kept global).deleted) w ∙ c.next_unmapped_global-global.ensures.least.0 in
    let free = ap (λ s. at s.variables.tables.users.forward c.args.user) w ∙ ap (λ t. at t.users.forward c.args.user) c.self.view_is ∙ c.requires.free in
    let made = subst (λ k. IsDataAt k global fresh c.make.new.self.kept) c.reserve.ensures.kept c.make.ensures.kept in (
      give-users _ c.give.new.self.pairs c.make.new.self.kept c.args.user global fresh linked refl unused free c.in_ok-give.ensures.joined made,
      record { users = c.give.ensures.listed; solvers = listed.solvers; globals = c.make.ensures.listed },
    )
