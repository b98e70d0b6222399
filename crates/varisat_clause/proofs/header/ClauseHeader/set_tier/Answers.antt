use Rattle.varisat_clause.specs.HeaderFlags.{tier-alone}
use Rattle.varisat_clause.proofs.header.ClauseHeader.set_tier.Goals as goal

pub returns : goal.returns
returns c = rw (c.index.ensures, ← c.self.view_is) (tier-alone c.self.inside.activity c.self.inside.flags c.self.inside.len c.args.tier c.self.invariant)
