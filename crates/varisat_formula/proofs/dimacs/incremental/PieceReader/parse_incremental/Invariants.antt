use Rattle.std.proofs.Common.{◌≡◌}
use Rattle.varisat_formula.specs.promises.Parsed.{reading_with, Turns}
use Rattle.varisat_formula.proofs.dimacs.incremental.PieceReader.parse_incremental.Given as goal

abbrev pub invariant-pieces : goal.invariant-pieces
invariant-pieces g l = record {
  turns : Turns (reading_with g.Self.PieceReader.progress g.F.FnMut g.E.From.from_gives)
      (g.S.ByteSource.input l.fn.source) l.fn.f
      (record { source = g.S.ByteSource.input l.source; reader = l.parser; function = l.f });
  quiet : (g.S.ByteSource.input l.source).faults ≡ (g.S.ByteSource.input l.fn.source).faults;
}

abbrev pub decreases-pieces : goal.decreases-pieces
decreases-pieces g l = (g.S.ByteSource.input l.source).pieces
