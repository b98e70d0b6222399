use Rattle.std.proofs.Common.{Some, refl, sym, ap, ◌∙◌}
use Rattle.varisat_formula.specs.promises.Formulas.{Formula}
use Rattle.varisat_incremental.specs.Batches.{Batches}
use Rattle.varisat_incremental.proofs.BatchLemmas.{goes-on, opens}
use Rattle.varisat_incremental.proofs.batches.Batches.go_on.Goals as goal

pub returns-then-is_some : goal.returns-then-is_some
returns-then-is_some g c = goes-on _ _ _ (c.in_ok-go_on_with_batch.ensures {u = tt})

pub returns : goal.returns
returns g c =
    let before : Batches = record { reconstruction = c.self.inside.reconstruction; open_batch = c.self.inside.open_batch; ended = c.self.inside.ended.clauses } in
    let after : Batches = record { reconstruction = c.begin.new.self; open_batch = Some c.in_ok-batch.batch; ended = c.self.inside.ended.clauses } in
    rw (← c.self.view_is) (opens c.in_ok-batch.batch c.replace-formula.result before after c.args.pending.now.clauses c.replace-formula.new.dest.clauses
    c.begin.new.self (sym c.is_some.ensures ∙ c.if-is_some.false) (ap (λ (f : Formula). f.clauses) (sym c.replace-formula.ensures.value))
    (ap (λ (f : Formula). f.clauses) (c.replace-formula.ensures.after ∙ c.new_in.ensures)) (c.in_ok-batch.ensures {u = tt}) refl)
