use Rattle.std.proofs.Common.{◌≡◌, ℕ, Bool, true, false, not, ◌&&◌, ⊎_elim, sym, ap, ◌∙◌, subst, length, refl}
use Rattle.std.proofs.lemmas.Bool.{cases_Bool}
use Rattle.varisat_clause.specs.declared.header.Tier.{Tier}
use Rattle.varisat_clause.specs.Tiers.{is_tier}
use Rattle.varisat_clause.specs.Stored.{StoredClause}
use Rattle.varisat_clause.specs.Stores.{Store, stored_clauses, HoldsClauses}
use Rattle.varisat_clause.specs.Databases.{is_live_in}
use Rattle.varisat_clause.specs.Collected.{live_of, live_clauses}
use Rattle.varisat_clause.specs.Reductions.{mid_reduced, mids_reduced}
use Rattle.varisat_clause.proofs.DatabaseTracks.{same-tier}
use Rattle.varisat_clause.proofs.MidReduction.{mid-other, mid-active, mid-moved}
use Rattle.varisat_analysis.specs.HeaderChanges.{SameButHeaders, ChangesHeaders}
use Rattle.varisat_analysis.proofs.SameButHeaders.{held_clause, live-map}
use Rattle.varisat_search.specs.declared.context.Context.{Context}
use Rattle.varisat_search.specs.Contexts.{view}
use Rattle.varisat_search.proofs.simplifying.HeaderChanges.{store-view, headers-ready}
use Rattle.varisat_search.proofs.reduce.reduce_mids.Given.{Over}
use Rattle.varisat_search.proofs.reduce.reduce_mids.Goals.{In_ok-reduce_mids}
use Rattle.varisat_clause.specs.declared.header.Tier.TheVariants as tier
use Rattle.varisat_search.proofs.reduce.reduce_mids.Goals as goal

-- What becomes of Mid clauses in a reduction: only headers change.
second : (a b : Bool) → (a && b) ≡ true → b ≡ true
second true b e = e
second false b e = absurd (let z : false ≡ true = e in cc)

-- a Mid clause is learned, and stays so
mid-learned : (k : StoredClause) → is_live_in tier.Mid k ≡ true → is_tier k.header.tier tier.Irred ≡ false
mid-learned k e = ap (λ (t : Tier). is_tier t tier.Irred)
    (sym (same-tier tier.Mid k.header.tier (second (not k.header.deleted) (is_tier tier.Mid k.header.tier) e)))

mid-held : (k : StoredClause) → held_clause (mid_reduced k) ≡ held_clause k
mid-held k =
    ⊎_elim
    (λ e. ⊎_elim
    (λ f. ap held_clause (mid-active k e f))
    (λ f. ap held_clause (mid-moved k e f)
    ∙ ap (λ (b : Bool). record {
      placed = record { place = k.place; kept = record { clause = k.literals; learned = not b } };
      deleted =
          k.header.deleted;
    }) (sym (mid-learned k e)))
    (cases_Bool k.header.active))
    (λ e. ap held_clause (mid-other k e))
    (cases_Bool (is_live_in tier.Mid k))

mids-headers : (s t : Store) (size : ℕ) → HoldsClauses t size (mids_reduced (stored_clauses s)) → SameButHeaders (live_clauses s) (live_clauses t)
mids-headers s t size h = subst (λ ks. SameButHeaders (live_clauses s) (live_of ks)) (sym h.clauses) (live-map mid_reduced (stored_clauses s) mid-held)

abbrev after : (g : Over) (c : In_ok-reduce_mids g) → Context g.row.A.Denot
after g c = record c.args.ctx.now { clause_alloc = c.reduce_mids.new.alloc; clause_db = c.reduce_mids.new.db }

changes : (g : Over) (c : In_ok-reduce_mids g) → ChangesHeaders (view c.args.ctx.now) (view (after g c))
changes g c =
    let x = c.args.ctx.now in
    record {
      clauses = mids-headers x.clause_alloc c.reduce_mids.new.alloc (length x.clause_alloc.words) c.in_ok-reduce_mids.ensures.reduced;
      rest = store-view x (after g c) c.requires.tracks.sound c.reduce_mids.ensures.tracks.sound refl;
    }

pub returns-clause-reduces : goal.returns-clause-reduces
returns-clause-reduces g c = record {
  reduced = c.in_ok-reduce_mids.ensures.reduced;
  headers = changes g (goal.at.returns-clause-reduces g c).In_ok-reduce_mids;
}

pub returns-clause-ready : goal.returns-clause-ready
returns-clause-ready g c =
    let here = (goal.at.returns-clause-ready g c).In_ok-reduce_mids in
    headers-ready c.args.ctx.now (after g here) c.requires (changes g here) c.reduce_mids.ensures.tracks refl refl
