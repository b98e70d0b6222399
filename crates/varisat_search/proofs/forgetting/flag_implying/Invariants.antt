use Rattle.varisat_search.proofs.simplifying.MentionedFlags.{ImplyingBelow}
use Rattle.varisat_search.proofs.forgetting.flag_implying.Given as goal

abbrev pub invariant-loop-code : goal.invariant-loop-code
invariant-loop-code g l = ImplyingBelow l.code l.binary_clauses l.fn.flags l.flags
