use Rattle.std.proofs.lemmas.Grind.{common_steps}
use Rattle.std.proofs.Common.{◌∙◌, sym, arith}
use Rattle.varisat_names.proofs.Tables.{listed-set}
use Rattle.varisat_names.proofs.variables.globals.Globals.restore.Goals as goal

pub returns-clause-kept : goal.returns-clause-kept
returns-clause-kept g c = grind (arith, common_steps)

pub returns-clause-listed : goal.returns-clause-listed
returns-clause-listed g c =
    let updates = c.remove.ensures.updates in
    listed-set c.remove.new.self c.args.old_data c.self.view_is c.requires.made c.requires.listed c.set.ensures c.index.ensures.index
    (updates.1 ∙ sym c.requires.live) updates.2
