use Rattle.std.proofs.Common.{Some, refl, sym, ◌∙◌}
use Rattle.varisat_incremental.specs.Batches.{Batches}
use Rattle.varisat_incremental.proofs.BatchLemmas.{keeps-open, keeps-ended}
use Rattle.varisat_incremental.proofs.batches.Batches.go_on_with_batch.Goals as goal

pub returns-then-branch : goal.returns-then-branch
returns-then-branch g c =
    let before : Batches = record { reconstruction = c.self.inside.reconstruction; open_batch = c.self.inside.open_batch; ended = c.self.inside.ended.clauses } in
    let after : Batches = record { reconstruction = c.self.inside.reconstruction; open_batch = Some c.go_on.new.self; ended = c.self.inside.ended.clauses } in
    rw (← c.self.view_is) (keeps-open c.in-Some.batch c.go_on.new.self before after (sym c.replace.ensures.value ∙ c.in-Some.is)
    (c.in_ok-go_on.ensures {u = tt}) refl)

pub returns : goal.returns
returns g c =
    let before : Batches = record { reconstruction = c.self.inside.reconstruction; open_batch = c.self.inside.open_batch; ended = c.self.inside.ended.clauses } in
    let after : Batches = record { reconstruction = c.end.new.self; open_batch = c.replace.new.dest; ended = c.end.new.given.clauses } in
    rw (← c.self.view_is) (keeps-ended c.in-Some.batch c.go_on.new.self before after (sym c.replace.ensures.value ∙ c.in-Some.is)
    (c.in_ok-go_on.ensures {u = tt}) (c.in_ok-end.ensures {u = tt}) c.replace.ensures.after)
