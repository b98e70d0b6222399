use Rattle.std.proofs.Common.{sym, subst}
use Rattle.varisat_names.specs.promises.Variables.{AreFree}
use Rattle.varisat_names.proofs.variables.Variables.next_unmapped_user.Goals as goal

pub next_free-requires : goal.next_free-requires
next_free-requires g c = subst (λ p. AreFree p.tables.users.forward p.free.users) (sym c.self.view_is) c.requires.listed
