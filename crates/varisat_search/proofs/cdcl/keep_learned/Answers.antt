use Rattle.std.proofs.lemmas.Grind.{common_steps}
use Rattle.std.proofs.Common.{rules, ℕ, ◌≤◌, List, length, subst, arith}
use Rattle.varisat_clause.specs.Stores.{AddsStored}
use Rattle.varisat_search.specs.Conflicts.{learned_at}
use Rattle.varisat_search.proofs.learning.LearnClause.{stored-learned}
use Rattle.varisat_search.proofs.cdcl.keep_learned.Goals as goal

pub returns-clause-reason : goal.returns-clause-reason
returns-clause-reason g c =
    let x = c.args.ctx.now in
    let n = c.add_clause.new.alloc in
    let long : 3 ≤ length x.analyze_conflict.clause = search rules in
    let added = subst (λ (d : List ℕ). AddsStored x.clause_alloc n (learned_at c.in_ok-cref.cref c.args.header d)) c.clause-2.ensures
    c.in_ok-cref.ensures.added in
    stored-learned x.clause_alloc n x.binary_clauses x.analyze_conflict.clause c.in_ok-cref.cref c.args.header long c.requires.redundant c.requires.live added

pub returns-clause-stored : goal.returns-clause-stored
returns-clause-stored g c =
    subst (λ (d : List ℕ). AddsStored c.args.ctx.now.clause_alloc c.add_clause.new.alloc (learned_at c.in_ok-cref.cref c.args.header d))
    c.clause-2.ensures c.in_ok-cref.ensures.added

pub add_binary_clause-requires-clause-first : goal.add_binary_clause-requires-clause-first
add_binary_clause-requires-clause-first g c = grind (arith, common_steps)

pub add_binary_clause-requires-clause-second : goal.add_binary_clause-requires-clause-second
add_binary_clause-requires-clause-second g c = grind (arith, common_steps)
