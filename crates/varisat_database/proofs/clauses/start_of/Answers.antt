use Rattle.std.proofs.Common.{sym, ap, ◌∙◌}
use Rattle.varisat_database.specs.Cuts.{start_of}
use Rattle.varisat_database.proofs.CutLemmas.{start_first, start_at}
use Rattle.varisat_database.proofs.clauses.start_of.Goals as goal

pub returns-then-index-eq0 : goal.returns-then-index-eq0
returns-then-index-eq0 c = sym (ap (start_of 0 c.args.ends.now) c.if-index-eq0.true ∙ start_first 0 c.args.ends.now)

pub returns : goal.returns
returns c = start_at c.args.ends.now c.args.index c.requires c.if-index-eq0.false
