use Rattle.std.proofs.Common.{sym, ◌∙◌}
use Rattle.varisat_names.proofs.VarMap.{at-inside, parted-inverse}
use Rattle.varisat_names.proofs.variables.var_map.VarBiMap.remove.Goals as goal

pub invariant_of-self : goal.invariant_of-self
invariant_of-self g c =
    let found = sym c.get.ensures ∙ c.in_ok-into.was {u = tt} in
    let there = c.self.invariant.there c.args.from c.in_ok-into.into found in
    parted-inverse c.self.inside.fwd c.self.inside.bwd c.remove.new.self c.remove-2.new.self c.args.from c.in_ok-into.into c.self.invariant found
    (c.remove.ensures.below (at-inside c.self.inside.fwd c.args.from c.in_ok-into.into found))
    (c.remove-2.ensures.below (at-inside c.self.inside.bwd c.in_ok-into.into c.args.from there))

pub returns : goal.returns
returns g c =
    let found = sym c.get.ensures ∙ c.in_ok-into.was {u = tt} in
    let there = c.self.invariant.there c.args.from c.in_ok-into.into found in
    rw (← c.self.view_is) (
      found,
      record {
        forward = c.remove.ensures.below (at-inside c.self.inside.fwd c.args.from c.in_ok-into.into found);
        backward = c.remove-2.ensures.below (at-inside c.self.inside.bwd c.in_ok-into.into c.args.from there);
      },
    )
