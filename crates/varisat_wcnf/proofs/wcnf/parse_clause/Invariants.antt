use Rattle.std.proofs.Common.{◌≡◌, map, length}
use Rattle.varisat_formula.specs.promises.Dimacs.{meaning}
use Rattle.varisat_wcnf.specs.promises.Texts.{line_words, clause_from, clause_of}
use Rattle.varisat_wcnf.proofs.wcnf.parse_clause.Given as goal

abbrev pub decreases-words : goal.decreases-words
decreases-words g l = length l.rest

abbrev pub invariant-words : goal.invariant-words
invariant-words g l = clause_from l.clause.items (map meaning (line_words l.rest)) ≡ clause_of (line_words l.line)
