use Rattle.std.proofs.Common.{sym, subst}
use Rattle.varisat_names.specs.promises.VarData.{AreDeleted}
use Rattle.varisat_names.proofs.variables.Variables.next_unmapped_global.Goals as goal

pub next_deleted-requires : goal.next_deleted-requires
next_deleted-requires g c = subst (λ p. AreDeleted p.tables.kept p.free.globals) (sym c.self.view_is) c.requires.listed
