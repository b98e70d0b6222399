use Rattle.varisat_names.specs.inside.Entries.{entry}
use Rattle.varisat_names.proofs.Entries.{cut-ends, cut-entries}
use Rattle.varisat_names.proofs.variables.var_map.VarMap.cut.Goals as goal

pub invariant_of-self : goal.invariant_of-self
invariant_of-self g c = (
  cut-ends (entry c.self.inside.own c.self.inside.codes) c.self.inside.watermark c.args.watermark c.args.self.now c.self.view_is
      c.self.invariant.0 c.requires.lower c.requires.above,
  c.self.invariant.1,
)

pub returns : goal.returns
returns g c = cut-entries (entry c.self.inside.own c.self.inside.codes) c.self.inside.watermark c.args.watermark c.args.self.now c.self.view_is
    c.requires.lower
