use Rattle.std.proofs.Common.{sym, ◌∙◌}
use Rattle.varisat_names.proofs.VarMap.{at-inside, parted-inverse}
use Rattle.varisat_names.proofs.variables.var_map.VarBiMap.remove_into.Goals as goal

pub invariant_of-self : goal.invariant_of-self
invariant_of-self g c =
    let found = sym c.get.ensures ∙ c.in_ok-source.was {u = tt} in
    let there = c.self.invariant.back c.in_ok-source.source c.args.target found in
    parted-inverse c.self.inside.fwd c.self.inside.bwd c.remove-2.new.self c.remove.new.self c.in_ok-source.source c.args.target c.self.invariant there
    (c.remove-2.ensures.below (at-inside c.self.inside.fwd c.in_ok-source.source c.args.target there))
    (c.remove.ensures.below (at-inside c.self.inside.bwd c.args.target c.in_ok-source.source found))

pub returns : goal.returns
returns g c =
    let found = sym c.get.ensures ∙ c.in_ok-source.was {u = tt} in
    let there = c.self.invariant.back c.in_ok-source.source c.args.target found in
    rw (← c.self.view_is) (
      found,
      record {
        forward = c.remove.ensures.below (at-inside c.self.inside.bwd c.args.target c.in_ok-source.source found);
        backward = c.remove-2.ensures.below (at-inside c.self.inside.fwd c.in_ok-source.source c.args.target there);
      },
    )
