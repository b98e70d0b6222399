use Rattle.std.proofs.Common.{Some, sym, arith}
use Rattle.varisat_names.specs.inside.Entries.{entry}
use Rattle.varisat_names.proofs.Entries.{read-list}
use Rattle.varisat_names.proofs.variables.var_map.VarMap.get.Goals as goal

pub returns-then-index-self : goal.returns-then-index-self
returns-then-index-self g c =
    let is = c.index.ensures.index in
    let below = c.if-index-self.true in
    read-list (entry c.self.inside.own c.self.inside.codes) c.self.inside.watermark c.args.from (Some c.args.from) c.args.self.now
    c.self.view_is c.self.invariant.0 (sym (c.self.invariant.1 c.args.from (omega (arith, is, below))))

pub returns-else-index-self : goal.returns-else-index-self
returns-else-index-self g c = read-list (entry c.self.inside.own c.self.inside.codes) c.self.inside.watermark c.args.from c.read_entry.result
    c.args.self.now c.self.view_is c.self.invariant.0 c.read_entry.ensures
