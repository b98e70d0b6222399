use Rattle.std.proofs.Common.{take}
use Rattle.varisat_clause.specs.Stores.{stored_clauses}
use Rattle.varisat_clause.proofs.CollectedClauses.{IsCopied}
use Rattle.varisat_clause.proofs.collect.collected.Given as goal

abbrev pub invariant-clauses : goal.invariant-clauses
invariant-clauses g l = IsCopied l.new_alloc l.new_db (take l.index (stored_clauses l.alloc))
