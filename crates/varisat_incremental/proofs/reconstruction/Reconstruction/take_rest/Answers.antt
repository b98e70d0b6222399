use Rattle.std.proofs.Common.{refl}
use Rattle.varisat_incremental.specs.Reconstructions.{Reconstruction}
use Rattle.varisat_incremental.proofs.TakingLemmas.{takes-rest}
use Rattle.varisat_incremental.proofs.reconstruction.Reconstruction.take_rest.Goals as goal

pub returns : goal.returns
returns g c =
    let m : Reconstruction = record { stack = c.self.inside.stack; eliminated = c.self.inside.eliminated.items; frozen = c.self.inside.frozen.items } in
    let t : Reconstruction = record { stack = c.self.inside.stack; eliminated = c.self.inside.eliminated.items; frozen = c.set_all_flags.new.flags.items } in
    let sets = c.in_ok-set_all_flags.ensures {u = tt} in
    takes-rest c.args.formula.clauses c.in_ok-left.left.clauses c.args.self.now m t (rw c.self.view_is (c.in_ok-left.ensures {u = tt})) sets.keeps sets.sets refl refl
