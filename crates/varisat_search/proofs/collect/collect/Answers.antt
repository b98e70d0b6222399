use Rattle.std.proofs.Common.{◌≡◌, Bool, false, List, [], length, sym, ap, ◌∙◌, refl}
use Rattle.varisat_theory.specs.promises.Literals.{Literal}
use Rattle.varisat_clause.specs.Stored.{StoredClause}
use Rattle.varisat_clause.specs.Stores.{Store, stored_clauses}
use Rattle.varisat_clause.specs.Databases.{Database, Tracks}
use Rattle.varisat_clause.specs.Collected.{live_of, live_clauses, packed, IsCollected}
use Rattle.varisat_clause.proofs.StoreSound.{sound-is}
use Rattle.varisat_clause.proofs.LiveStore.{live-∈}
use Rattle.varisat_prop.specs.Watches.{watches_of}
use Rattle.varisat_search.specs.declared.context.Context.{Context}
use Rattle.varisat_search.specs.Contexts.{view, IsReady}
use Rattle.varisat_search.specs.Frames.{ChangesKept}
use Rattle.varisat_analysis.specs.Collections.{repointed_each, Repacks}
use Rattle.varisat_search.proofs.simplifying.RepackedView.{packed-live, packed-below, view-repacks, repacks-may}
use Rattle.varisat_search.proofs.stepping.ReadyAfter.{keeps-values, unwatched-ready, first-known}
use Rattle.varisat_clause.proofs.CollectedClauses.{packed-length}
use Rattle.varisat_search.proofs.collect.collect.Given.{Over}
use Rattle.varisat_search.proofs.collect.collect.Goals.{After-count}
use Rattle.varisat_search.proofs.collect.collect.Goals as goal

-- The contexts of a collection.

-- the clauses of the new store, none of which is deleted
new-live : (old new : Store) (d : Database) → IsCollected new d (stored_clauses old) → live_clauses new ≡ packed 0 (live_clauses old)
new-live old new d h = ap live_of h.store.clauses ∙ packed-live 0 (live_clauses old) (λ k i. (live-∈ (stored_clauses old) k i).1)

context-repacks : {A : Type 0} (x z : Context A) → IsReady x → IsCollected z.clause_alloc z.clause_db (stored_clauses x.clause_alloc) →
    (view z).nodes ≡ repointed_each (view x).values (live_clauses x.clause_alloc) (stored_clauses z.clause_alloc) (view x).nodes →
    view z ≡ record (view x) { sound = (view z).sound; clauses = (view z).clauses; nodes = (view z).nodes } → Repacks (view x) (view z)
context-repacks x z r h e rest =
    let live = new-live x.clause_alloc z.clause_alloc z.clause_db h in
    let same : stored_clauses z.clause_alloc ≡ live_clauses z.clause_alloc = h.store.clauses ∙ sym live in
    view-repacks (view x) (view z) r.well (packed-below x.clause_alloc r.tracks.sound) live
    (e ∙ ap (λ (ks : List StoredClause). repointed_each (view x).values (live_clauses x.clause_alloc) ks (view x).nodes) same)
    (rest ∙ ap (λ (o : Bool). record (view x) { sound = o; clauses = (view z).clauses; nodes = (view z).nodes })
    (sound-is z.clause_alloc h.tracks.sound ∙ sym (sound-is x.clause_alloc r.tracks.sound)))

-- it stays ready, with the watch lists off
repacks-ready : {A : Type 0} (x z : Context A) → IsReady x → Repacks (view x) (view z) → Tracks z.clause_db z.clause_alloc →
    length z.watchlists.lists ≡ length x.watchlists.lists → ((l : Literal) → watches_of z.watchlists l ≡ []) → z.watchlists.enabled ≡ false →
    ChangesKept x z → IsReady z
repacks-ready x z r d t n e o k = unwatched-ready x z (view z).nodes r (keeps-values x z k) (repacks-may (view x) (view z) r.well d) d.rest t n e o

pub repoint_reasons-requires : goal.repoint_reasons-requires
repoint_reasons-requires g c =
    let x = c.args.ctx.now in
    record {
      sound = c.requires.tracks.sound;
      count = ap length c.in_ok-new_alloc.ensures.store.clauses ∙ packed-length 0 (live_clauses x.clause_alloc);
      values = first-known (view x) c.requires.well;
      nodes = c.requires.well.nodes_are;
    }

abbrev after : (g : Over) (c : After-count g) → Context g.row.A.Denot
after g c = record c.args.ctx.now {
  clause_alloc = c.in_ok-new_alloc.new_alloc;
  clause_db = c.in_ok-new_alloc.new_db;
  counters = record c.args.ctx.now.counters { collections = c.count.new.counter };
  impl_graph = c.repoint_reasons.new.impl_graph;
  watchlists =
      c.disable.new.self;
}

repacks : (g : Over) (c : After-count g) → Repacks (view c.args.ctx.now) (view (after g c))
repacks g c = context-repacks c.args.ctx.now (after g c) c.requires c.in_ok-new_alloc.ensures c.repoint_reasons.ensures refl

pub returns-clause-repacks : goal.returns-clause-repacks
returns-clause-repacks g c = repacks g (goal.at.returns-clause-repacks g c).After-count

pub returns-clause-ready : goal.returns-clause-ready
returns-clause-ready g c =
    let here = (goal.at.returns-clause-ready g c).After-count in
    let d = c.disable.ensures in
    repacks-ready c.args.ctx.now (after g here) c.requires (repacks g here) c.in_ok-new_alloc.ensures.tracks d.count d.empty d.enabled refl
