use Rattle.std.proofs.Common.{refl, sym, ◌∙◌, subst}
use Rattle.varisat_incremental.specs.Reconstructions.{Reconstruction}
use Rattle.varisat_incremental.specs.Batches.{Batch, EndsBatch}
use Rattle.varisat_incremental.proofs.BatchLemmas.{ends-batch}
use Rattle.varisat_incremental.proofs.reconstruction.Reconstruction.end.Goals as goal

pub returns : goal.returns
returns g c =
    let m : Reconstruction = record { stack = c.self.inside.stack; eliminated = c.self.inside.eliminated.items; frozen = c.self.inside.frozen.items } in
    let t : Reconstruction = record { stack = c.self.inside.stack; eliminated = c.self.inside.eliminated.items; frozen = c.set_all_flags.new.flags.items } in
    let o : Batch = record { restored = c.batch.inside.restored.clauses; simplification = c.batch.inside.simplification } in
    let E = c.args.given.now.clauses in
    let G = c.append-2.new.formula.clauses in
    let made = c.in_ok-made.made in
    let sets = c.in_ok-set_all_flags.ensures {u = tt} in
    subst (λ (s : Reconstruction). EndsBatch c.args.batch E G c.args.self.now s) (sym (c.count_given-2.ensures ∙ c.count_given.ensures))
    (subst (λ (b : Batch). EndsBatch b E G c.args.self.now t) c.batch.view_is
    (ends-batch o made.formula made.stack made.history.lines E c.append.new.formula.clauses G c.args.self.now m t (c.in_ok-made.ensures {u = tt}).made
    (rw c.self.view_is (c.in_ok-save.ensures {u = tt})) sets.keeps sets.sets refl refl (c.in_ok-append.ensures {u = tt}) (c.in_ok-append-2.ensures {u = tt})))
