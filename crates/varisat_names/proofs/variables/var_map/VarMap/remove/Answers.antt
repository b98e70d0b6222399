use Rattle.varisat_names.specs.inside.Entries.{entry}
use Rattle.varisat_names.proofs.Entries.{take-out, none-ends, none-entries, none-above, own-none}
use Rattle.varisat_names.proofs.variables.var_map.VarMap.remove.Goals as goal

pub invariant_of-self : goal.invariant_of-self
invariant_of-self g c =
    let own = c.self.inside.own in
    let codes = c.self.inside.codes in
    let j = c.index-index.result in
    let is = c.index-index.ensures.index in
    let out = take-out own c.remove.new.self codes c.remove-2.new.self c.args.from j is c.remove.ensures c.remove-2.ensures in (
      none-ends (entry own codes) (entry c.remove.new.self c.remove-2.new.self) c.self.inside.watermark c.args.from c.self.invariant.0 out,
      own-none (entry own codes) (entry c.remove.new.self c.remove-2.new.self) c.self.inside.same c.min-self-inside.result j c.args.from
          c.self.invariant.1 out c.min-self-inside.ensures is,
    )

pub returns-clause-below : goal.returns-clause-below
returns-clause-below g c h =
    let own = c.self.inside.own in
    let codes = c.self.inside.codes in
    none-entries (entry own codes) (entry c.remove.new.self c.remove-2.new.self) c.self.inside.watermark c.args.from c.args.self.now
    c.self.view_is c.self.invariant.0 (invariant_of-self g c).0 h
    (take-out own c.remove.new.self codes c.remove-2.new.self c.args.from c.index-index.result c.index-index.ensures.index c.remove.ensures c.remove-2.ensures)

pub returns-clause-above : goal.returns-clause-above
returns-clause-above g c h =
    let own = c.self.inside.own in
    let codes = c.self.inside.codes in
    none-above (entry own codes) (entry c.remove.new.self c.remove-2.new.self) c.self.inside.watermark c.args.from c.args.self.now
    c.self.view_is c.self.invariant.0 h
    (take-out own c.remove.new.self codes c.remove-2.new.self c.args.from c.index-index.result c.index-index.ensures.index c.remove.ensures c.remove-2.ensures)
