use Rattle.std.proofs.Common.{ℕ, List, sym, subst, ◌∙◌, arith}
use Rattle.std.proofs.lemmas.List.{with_items_is}
use Rattle.std.specs.List.Sorted.{IsPermutation}
use Rattle.varisat_clause.specs.declared.header.Tier.TheVariants.{Local}
use Rattle.varisat_clause.specs.Stores.{stored_clauses}
use Rattle.varisat_clause.specs.Reductions.{places_in, ListsTier, AreRanked}
use Rattle.varisat_clause.proofs.TierPlaces.{tier-listed, listed-permutation, ranked-places}
use Rattle.varisat_clause.proofs.reduce.ranked_locals.Goals as goal

pub returns-clause-listed : goal.returns-clause-listed
returns-clause-listed g c =
    let items = with_items_is c.in_ok-locals.locals c.sort_by_rank.new.list (omega (arith, c.sort_by_rank.auto.list, c.deref_mut.ensures.len)) in
    let moved : IsPermutation (places_in Local (stored_clauses c.args.alloc.now)) c.sort_by_rank.new.list =
    subst (λ (xs : List ℕ). IsPermutation xs c.sort_by_rank.new.list)
    (c.deref_mut.ensures.value ∙ c.in_ok-locals.ensures) c.sort_by_rank.ensures.permutation in
    subst (ListsTier Local (stored_clauses c.args.alloc.now)) (sym items)
    (listed-permutation Local (stored_clauses c.args.alloc.now) (places_in Local (stored_clauses c.args.alloc.now)) c.sort_by_rank.new.list
    moved (tier-listed Local c.args.alloc.now c.requires))

pub returns-clause-ranked : goal.returns-clause-ranked
returns-clause-ranked g c =
    let items = with_items_is c.in_ok-locals.locals c.sort_by_rank.new.list (omega (arith, c.sort_by_rank.auto.list, c.deref_mut.ensures.len)) in
    let moved : IsPermutation (places_in Local (stored_clauses c.args.alloc.now)) c.sort_by_rank.new.list =
    subst (λ (xs : List ℕ). IsPermutation xs c.sort_by_rank.new.list)
    (c.deref_mut.ensures.value ∙ c.in_ok-locals.ensures) c.sort_by_rank.ensures.permutation in
    let l = listed-permutation Local (stored_clauses c.args.alloc.now)
    (places_in Local (stored_clauses c.args.alloc.now)) c.sort_by_rank.new.list moved (tier-listed Local c.args.alloc.now c.requires) in
    subst (AreRanked (stored_clauses c.args.alloc.now)) (sym items)
    (ranked-places c.args.alloc.now c.sort_by_rank.new.list c.requires l.known l.distinct c.sort_by_rank.ensures.ranked)
