use Rattle.std.proofs.Common.{length, sym, ap, ◌∙◌}
use Rattle.varisat_names.specs.inside.Entries.{entry}
use Rattle.varisat_names.proofs.Entries.{length-entries}
use Rattle.varisat_names.proofs.variables.var_map.VarMap.watermark.Goals as goal

pub returns : goal.returns
returns g c = sym (length-entries (entry c.self.inside.own c.self.inside.codes) c.self.inside.watermark) ∙ ap length c.self.view_is
