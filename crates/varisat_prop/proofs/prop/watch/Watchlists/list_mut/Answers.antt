use Rattle.std.proofs.Common.{arith, refl}
use Rattle.std.proofs.lemmas.Grind.{common_steps}
use Rattle.varisat_prop.proofs.prop.watch.Watchlists.list_mut.Goals as goal

pub returns : goal.returns
returns g c =
    ((refl, λ w. rw (← c.self.view_is) refl), record { lends = tt; value = grind (arith, common_steps) })

pub index_mut-requires : goal.index_mut-requires
index_mut-requires g c = grind (arith, common_steps)
