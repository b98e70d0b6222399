use Rattle.std.proofs.Common.{false}
use Rattle.varisat_clause.specs.Reductions.{marked_as}
use Rattle.varisat_clause.proofs.MappedClauses.{IsMapped}
use Rattle.varisat_clause.proofs.reduce.clear_marks.Given as goal

abbrev pub invariant-clauses : goal.invariant-clauses
invariant-clauses g l = IsMapped (marked_as false) l.fn.alloc l.alloc l.index
