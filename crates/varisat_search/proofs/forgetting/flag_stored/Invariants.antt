use Rattle.varisat_clause.specs.Collected.{live_clauses}
use Rattle.varisat_search.proofs.simplifying.MentionedFlags.{FlagsBut}
use Rattle.varisat_search.proofs.forgetting.flag_stored.Given as goal

abbrev pub invariant-loop-cref : goal.invariant-loop-cref
invariant-loop-cref g l = FlagsBut (live_clauses l.clause_alloc) l.cref-iterator l.fn.flags l.flags
