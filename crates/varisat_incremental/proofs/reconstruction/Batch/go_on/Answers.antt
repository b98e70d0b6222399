use Rattle.varisat_incremental.proofs.BatchLemmas.{continues-batch}
use Rattle.varisat_incremental.proofs.reconstruction.Batch.go_on.Goals as goal

pub returns : goal.returns
returns g c =
    rw (← c.self.view_is) (continues-batch c.self.inside.restored.clauses c.self.inside.simplification c.go_on.new.self (c.in_ok-is_more.ensures {u = tt}))
