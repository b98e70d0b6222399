use Rattle.std.proofs.Common.{◌≡◌, ℕ, ◌/◌, length, sym, subst, arith}
use Rattle.varisat_clause.specs.declared.header.Tier.TheVariants.{Local}
use Rattle.varisat_clause.specs.Stores.{stored_clauses, HoldsClauses}
use Rattle.varisat_clause.specs.Reductions.{ListsTier, AreRanked, unmarked_places, all_deleted}
use Rattle.varisat_clause.proofs.reduce.reduce_locals.Goals as goal

pub delete_unmarked-requires-clause-listed : goal.delete_unmarked-requires-clause-listed
delete_unmarked-requires-clause-listed g c = subst (ListsTier Local (stored_clauses c.args.alloc.now)) (sym c.deref.ensures.value) c.in_ok-locals.ensures.listed

pub returns-clause-reduced : goal.returns-clause-reduced
returns-clause-reduced g c =
    let n : c.len.result ≡ length c.deref.result.now = omega (arith, c.len.ensures, c.deref.ensures.len) in
    record {
      order = c.deref.result.now;
      listed = subst (ListsTier Local (stored_clauses c.args.alloc.now)) (sym c.deref.ensures.value) c.in_ok-locals.ensures.listed;
      ranked = subst (AreRanked (stored_clauses c.args.alloc.now)) (sym c.deref.ensures.value) c.in_ok-locals.ensures.ranked;
      deleted = subst (λ (m : ℕ). HoldsClauses c.delete_unmarked.new.alloc (length c.args.alloc.now.words)
          (all_deleted (unmarked_places (stored_clauses c.args.alloc.now) (m / 2) c.deref.result.now) (stored_clauses c.args.alloc.now))) n
          c.delete_unmarked.ensures.deleted;
    }
