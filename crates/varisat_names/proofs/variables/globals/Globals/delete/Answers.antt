use Rattle.std.proofs.lemmas.Grind.{common_steps}
use Rattle.std.proofs.Common.{slice_set, ◌∙◌, ap, sym, subst, arith}
use Rattle.varisat_names.specs.promises.VarData.{dead, AreDeleted}
use Rattle.varisat_names.proofs.Tables.{listed-set}
use Rattle.varisat_names.proofs.variables.globals.Globals.delete.Goals as goal

pub returns-in_err-insert-clause-listed : goal.returns-in_err-insert-clause-listed
returns-in_err-insert-clause-listed g c =
    let listed = subst (λ k. AreDeleted k.kept k.free) (sym c.self.view_is) c.requires.listed in
    subst (λ ks. AreDeleted c.self.inside.data.items (record { keys = ks })) (sym c.in_err-insert.ensures.err) listed

pub returns-clause-deleted : goal.returns-clause-deleted
returns-clause-deleted g c = grind (arith, common_steps)

pub returns-clause-listed : goal.returns-clause-listed
returns-clause-listed g c =
    let updates = c.in_ok-insert.ensures.updates in
    listed-set c.insert.new.self dead c.self.view_is c.requires.made c.requires.listed (c.set.ensures ∙ ap (slice_set _ _) c.default.ensures)
    c.index.ensures.index updates.1 updates.2
