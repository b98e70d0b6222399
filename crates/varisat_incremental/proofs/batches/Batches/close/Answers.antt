use Rattle.std.proofs.Common.{sym, ◌∙◌}
use Rattle.varisat_incremental.specs.Batches.{Batches}
use Rattle.varisat_incremental.proofs.BatchLemmas.{closes-open}
use Rattle.varisat_incremental.proofs.batches.Batches.close.Goals as goal

pub returns : goal.returns
returns g c =
    let before : Batches = record { reconstruction = c.self.inside.reconstruction; open_batch = c.self.inside.open_batch; ended = c.self.inside.ended.clauses } in
    let after : Batches = record { reconstruction = c.end.new.self; open_batch = c.replace.new.dest; ended = c.end.new.given.clauses } in
    rw (← c.self.view_is) (closes-open c.in-Some.batch before after (sym c.replace.ensures.value ∙ c.in-Some.is) (c.in_ok-end.ensures {u = tt})
    c.replace.ensures.after)
