use Rattle.std.proofs.lemmas.Grind.{common_steps}
use Rattle.std.proofs.Common.{ap, ◌∙◌, arith}
use Rattle.varisat_names.specs.promises.VarMap.{at}
use Rattle.varisat_names.specs.promises.VarData.{data_at}
use Rattle.varisat_names.proofs.Linked.{keep-live, join-users}
use Rattle.varisat_names.proofs.LinkedCalls.{begun, names-stay}
use Rattle.varisat_names.proofs.variables.linked.LinkedVariables.show.Goals as goal

pub invariant_of-self : goal.invariant_of-self
invariant_of-self g c = names-stay (ap (λ s. s.variables) c.self-inside.view_is) c.self.invariant c.in_err-give.ensures.refused c.give.ensures.listed

pub invariant_of-self-2 : goal.invariant_of-self-2
invariant_of-self-2 g c =
    let w = c.self-inside.view_is in
    let (linked, listed) = begun (ap (λ s. s.variables) w) c.self.invariant in
    let user = c.next_unmapped_user-user.result in
    let live = ap (λ s. (data_at s.variables.tables.kept c.args.global).deleted) w ∙ ap (λ t. (data_at t.kept c.args.global).deleted) c.self.view_is
    ∙ c.requires.live in
    let unnamed = ap (λ s. at s.variables.tables.users.backward c.args.global) w ∙ ap (λ t. at t.users.backward c.args.global) c.self.view_is
    ∙ c.requires.unnamed in
    let free = ap (λ s. at s.variables.tables.users.forward user) w ∙ c.next_unmapped_user-user.ensures.least.0 in
    let given = join-users _ c.give.new.self.pairs user c.args.global linked live free unnamed c.in_ok-give.ensures.joined in (
      keep-live _ c.set_data.new.self.kept c.args.global _ given (ap (λ d. d.deleted) c.data-kept.ensures ∙ live) c.set_data.ensures.kept,
      record { users = c.give.ensures.listed; solvers = listed.solvers; globals = c.set_data.ensures.listed },
    )

pub data-kept-requires : goal.data-kept-requires
data-kept-requires g c = grind (arith, common_steps)

pub set_data-requires-clause-made : goal.set_data-requires-clause-made
set_data-requires-clause-made g c = grind (arith, common_steps)
