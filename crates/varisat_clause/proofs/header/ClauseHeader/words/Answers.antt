use Rattle.varisat_clause.specs.HeaderFlags.{flags-read}
use Rattle.varisat_clause.proofs.header.ClauseHeader.words.Goals as goal

pub returns-clause-back : goal.returns-clause-back
returns-clause-back c = rw (← c.self.view_is) (rw (flags-read c.self.inside.flags c.self.invariant))
