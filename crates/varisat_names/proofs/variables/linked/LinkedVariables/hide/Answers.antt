use Rattle.std.proofs.Common.{ap, ◌∙◌}
use Rattle.varisat_names.proofs.Tables.{live-inside}
use Rattle.varisat_names.proofs.Linked.{hide-users}
use Rattle.varisat_names.proofs.LinkedCalls.{begun, named-before, named-live, names-stay}
use Rattle.varisat_names.proofs.variables.linked.LinkedVariables.hide.Goals as goal

pub data-kept-requires : goal.data-kept-requires
data-kept-requires g c = live-inside _ c.args.global
    (named-live (ap (λ s. s.variables) c.self-inside.view_is) c.self.invariant c.args.user c.args.global c.self.view_is c.requires)

pub invariant_of-self : goal.invariant_of-self
invariant_of-self g c = names-stay (ap (λ s. s.variables) c.self-inside.view_is) c.self.invariant c.in_err-release.ensures.refused c.release.ensures.listed

pub invariant_of-self-2 : goal.invariant_of-self-2
invariant_of-self-2 g c =
    let same = ap (λ s. s.variables) c.self-inside.view_is in
    let (linked, listed) = begun same c.self.invariant in
    let named = named-before same c.self.invariant c.args.user c.args.global c.self.view_is c.requires in
    let live = named-live same c.self.invariant c.args.user c.args.global c.self.view_is c.requires in (
      hide-users _ c.release.new.self.pairs c.set_data.new.self.kept c.args.user c.args.global _ linked
          (ap (λ d. d.deleted) c.data-kept.ensures ∙ live) named c.in_ok-release.ensures.parted c.set_data.ensures.kept,
      record { users = c.release.ensures.listed; solvers = listed.solvers; globals = c.set_data.ensures.listed },
    )

pub set_data-requires-clause-made : goal.set_data-requires-clause-made
set_data-requires-clause-made g c = live-inside _ c.args.global
    (named-live (ap (λ s. s.variables) c.self-inside.view_is) c.self.invariant c.args.user c.args.global c.self.view_is c.requires)
