use Rattle.std.proofs.Common.{sym}
use Rattle.varisat_rules.proofs.NotingLemmas.{noted_more}
use Rattle.varisat_simplify.proofs.normal.note_if.Goals as goal

pub returns : goal.returns
returns g c d e n t = noted_more c.args.names.now c.args.positions.now c.note.new.positions d c.args.lit c.args.position c.note.ensures (sym e) (n t)
