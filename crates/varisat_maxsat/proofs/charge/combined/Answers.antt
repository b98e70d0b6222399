use Rattle.std.proofs.Common.{arith}
use Rattle.varisat_maxsat.proofs.Exchanging.{combined-less, combined-more}
use Rattle.varisat_maxsat.proofs.charge.combined.Goals as goal

pub returns-then-first-second-clause-same : goal.returns-then-first-second-clause-same
returns-then-first-second-clause-same c = λ a. combined-less a _ c.args.second.now.literal _ _ (omega arith) c.if-first-second.true

pub returns-clause-same : goal.returns-clause-same
returns-clause-same c = λ a. combined-more a _ c.args.second.now.literal _ _ (omega arith) c.if-first-second.false
