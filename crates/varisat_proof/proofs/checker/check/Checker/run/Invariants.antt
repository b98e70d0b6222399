use Rattle.std.proofs.Common.{◌≡◌}
use Rattle.varisat_proof.proofs.CheckedSources.{Underway}
use Rattle.varisat_proof.specs.promises.Marked.{state_of}
use Rattle.varisat_proof.proofs.checker.check.Checker.run.Given as goal
use Rattle.varisat_proof.specs.promises.DratChecks.{rules_of}

abbrev pub invariant-pieces : goal.invariant-pieces
invariant-pieces g l = record {
  so : Underway (rules_of l.fn.rules) l.fn.encoding (state_of l.fn.self.clauses l.fn.builder) (state_of l.self.clauses l.builder) (g.S.ByteSource.input l.fn.source)
      (g.S.ByteSource.input l.source) l.count l.reader;
  spent : l.self.spent ≡ l.fn.self.spent;
}

abbrev pub decreases-pieces : goal.decreases-pieces
decreases-pieces g l = (g.S.ByteSource.input l.source).pieces
