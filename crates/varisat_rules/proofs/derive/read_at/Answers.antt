use Rattle.std.proofs.Common.{sym, ◌∙◌}
use Rattle.varisat_rules.proofs.DeriveLemmas.{reads_at}
use Rattle.varisat_rules.proofs.derive.read_at.Goals as goal

pub returns : goal.returns
returns g c =
    reads_at c.args.db.now c.args.place c.args.but c.args.falses.now c.clause.result.now c.read.result c.clause.ensures
    (sym c.is_live.ensures ∙ c.if-not-is_live.false) c.if-place-but.false c.read.ensures
