use Rattle.std.proofs.Common.{rules}
use Rattle.std.proofs.lemmas.List.Sorted.{IsNonDecreasingBy-from_sort_by_key}
use Rattle.varisat_clause.specs.Reductions.{rank_in}
use Rattle.varisat_clause.proofs.reduce.sort_by_rank.Goals as goal

pub returns-clause-ranked : goal.returns-clause-ranked
returns-clause-ranked g c = IsNonDecreasingBy-from_sort_by_key
    (rank_in c.args.alloc.now.words) c.sort_unstable_by_key.new.self c.sort_unstable_by_key.ensures.sorted (λ a r q k. search rules)
