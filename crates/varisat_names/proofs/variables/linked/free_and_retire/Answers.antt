use Rattle.std.proofs.lemmas.Grind.{common_steps}
use Rattle.std.proofs.Common.{arith}
use Rattle.varisat_names.proofs.Linked.{restored}
use Rattle.varisat_names.proofs.Tables.{live-inside}
use Rattle.varisat_names.proofs.variables.linked.free_and_retire.Goals as goal

pub returns-in-Err-clause-globals_refused : goal.returns-in-Err-clause-globals_refused
returns-in-Err-clause-globals_refused g c =
    let inside = live-inside c.args.globals.now.kept c.args.variable c.requires.live in
    restored c.args.globals.now.kept c.delete.new.self.kept c.restore.new.self.kept c.args.variable c.data-kept.result inside
    c.data-kept.ensures c.in_ok-delete.ensures.deleted c.restore.ensures.kept

pub data-kept-requires : goal.data-kept-requires
data-kept-requires g c = grind (arith, common_steps)

pub delete-requires-clause-made : goal.delete-requires-clause-made
delete-requires-clause-made g c = grind (arith, common_steps)
