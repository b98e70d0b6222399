-- What was read was taken.
use Rattle.std.proofs.Common.{List}
use Rattle.varisat_theory.specs.promises.Literals.{Clause}
use Rattle.varisat_formula.proofs.ParsedSources.{ReadSo}
use Rattle.varisat_formula.proofs.TakenTexts.{TakesBehind}
use Rattle.varisat_formula.proofs.dimacs.parse.read_clauses.Given as goal

abbrev pub invariant-pieces : goal.invariant-pieces
invariant-pieces g l = record {
  front : List Clause;
  read : ReadSo (g.S.ByteSource.input l.fn.source) (g.S.ByteSource.input l.source) l.parser front;
  takes : TakesBehind g.T.ClauseSink.takes l.fn.sink front l.sink;
}

abbrev pub decreases-pieces : goal.decreases-pieces
decreases-pieces g l = (g.S.ByteSource.input l.source).pieces
