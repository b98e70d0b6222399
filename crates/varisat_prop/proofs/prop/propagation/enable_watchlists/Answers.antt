use Rattle.std.proofs.Common.{◌≡◌, ℕ, false, List, length, ap, sym, ◌∙◌, subst, refl, inl, arith}
use Rattle.varisat_theory.specs.promises.Membership.{◌∈◌}
use Rattle.varisat_clause.specs.Stored.{literals_at}
use Rattle.varisat_clause.specs.Stores.{stored_clauses}
use Rattle.varisat_clause.specs.Collected.{live_clauses}
use Rattle.varisat_clause.proofs.StoredClauses.{kept-at}
use Rattle.varisat_clause.proofs.LiveStore.{live-place, live-literals, live-long-at, are-live-rising}
use Rattle.varisat_prop.specs.Watches.{Watches, watches_of}
use Rattle.varisat_prop.specs.Visits.{WatchesClause}
use Rattle.varisat_prop.proofs.pairs.DistinctPlaces.{distinct-places}
use Rattle.varisat_prop.proofs.watching.WatchRebuilt.{WatchingBut, but-all, but-next, but-none}
use Rattle.varisat_prop.proofs.prop.propagation.enable_watchlists.Goals as goal

pub lits-requires-clause-place : goal.lits-requires-clause-place
lits-requires-clause-place g c =
    live-place (stored_clauses c.args.alloc.now) c.in-Some.cref
    (c.loop-cref.invariant.but.places c.in-Some.cref (subst (λ (xs : List ℕ). c.in-Some.cref ∈ xs) (sym c.in-Some.ensures.steps) (inl refl)))

pub watch_clause-requires-clause-several : goal.watch_clause-requires-clause-several
watch_clause-requires-clause-several g c =
    let s = c.args.alloc.now in
    let p = c.in-Some.cref in
    let h = c.loop-cref.invariant.but.places p (subst (λ (xs : List ℕ). p ∈ xs) (sym c.in-Some.ensures.steps) (inl refl)) in
    let e = ap length (c.lits.ensures ∙ live-literals s p c.requires.sound h) in
    let l = live-long-at s p c.requires.sound h in
    omega (arith, e, l)

pub watch_clause-requires-clause-listed : goal.watch_clause-requires-clause-listed
watch_clause-requires-clause-listed g c = λ l m.
    let s = c.args.alloc.now in
    let p = c.in-Some.cref in
    let h = c.loop-cref.invariant.but.places p (subst (λ (xs : List ℕ). p ∈ xs) (sym c.in-Some.ensures.steps) (inl refl)) in
    let e = c.lits.ensures ∙ live-literals s p c.requires.sound h in
    let b = c.requires.within (literals_at (live_clauses s) p) (kept-at (live_clauses s) p h) l (subst (λ x. l ∈ x) e m) in
    let o = c.loop-cref.invariant.count in
    omega (arith, b, o)

pub loop-cref-preserved : goal.loop-cref-preserved
loop-cref-preserved g c =
    let s = c.args.alloc.now in
    let p = c.in-Some.cref in
    let W = c.loop-cref.watchlists in
    let V = c.watch_clause.new.self in
    let h = c.loop-cref.invariant.but.places p (subst (λ (xs : List ℕ). p ∈ xs) (sym c.in-Some.ensures.steps) (inl refl)) in
    let w = subst (λ x. WatchesClause W V p x) (c.lits.ensures ∙ live-literals s p c.requires.sound h) c.in_ok-watch_clause.ensures in
    record {
      but = but-next W V (live_clauses s) p c.next.new.self c.loop-cref.invariant.enabled
          (subst (λ (xs : List ℕ). WatchingBut W (live_clauses s) xs) c.in-Some.ensures.steps c.loop-cref.invariant.but)
          (distinct-places (literals_at (live_clauses s) p) 0 (c.requires.distinct (literals_at (live_clauses s) p) (kept-at (live_clauses s) p h))
          0 1 (omega arith) (let l = live-long-at s p c.requires.sound h in omega (arith, l))) w;
      enabled = w.adds.enabled ∙ c.loop-cref.invariant.enabled;
      count = w.adds.count ∙ c.loop-cref.invariant.count;
    }

pub loop-cref-init : goal.loop-cref-init
loop-cref-init g c =
    let s = c.args.alloc.now in
    let off : c.args.watchlists.now.enabled ≡ false = sym c.enabled.ensures ∙ c.if-enabled.false in
    let lists = ap (λ (x : Watches). x.lists) c.enable.ensures in
    record {
      but = subst (λ (xs : List ℕ). WatchingBut c.enable.new.self (live_clauses s) xs)
          (sym (c.into_iter-cref-iterator.ensures.into_iter_gives ∙ c.clauses_iter-cref-items.ensures))
          (but-all c.enable.new.self (live_clauses s) (are-live-rising s c.requires.sound)
          (λ x. ap (λ (X : Watches). watches_of X x) c.enable.ensures ∙ c.requires.empty off x));
      enabled = ap (λ (x : Watches). x.enabled) c.enable.ensures;
      count = ap length lists;
    }

pub returns-clause-watching : goal.returns-clause-watching
returns-clause-watching g c = λ e.
    let s = c.args.alloc.now in
    but-none c.loop-cref.watchlists (live_clauses s)
    (subst (λ (xs : List ℕ). WatchingBut c.loop-cref.watchlists (live_clauses s) xs) (c.in-None.ensures {u = tt}).steps.0 c.loop-cref.invariant.but)
