use Rattle.varisat_steps.proofs.Broken.{error-broken, breaks-on, breaks-not}
use Rattle.varisat_steps.specs.declared.tracer.TraceError.TheVariants.{Memory}
use Rattle.std.proofs.Common.{◌≡◌, ℕ, ◌<◌, ◌++◌, Bool, true, false, Option, List, length, get_or, ⊎_elim, refl, sym, ap, ◌∙◌, subst, arith}
use Rattle.std.proofs.lemmas.List.Sorted.{IsPermutation-sym}
use Rattle.std.proofs.lemmas.Bool.{cases_Bool}
use Rattle.varisat_theory.specs.promises.Membership.{◌∈◌}
use Rattle.varisat_theory.specs.promises.Literals.{Clause, Literal, opposite}
use Rattle.varisat_clause.specs.Stored.{StoredClause, IsClauseRef, stored_at, literals_of}
use Rattle.varisat_clause.proofs.StoredClauses.{stored-∈, literals-∈}
use Rattle.varisat_clause.proofs.LiveStore.{live-place}
use Rattle.varisat_clause.proofs.TierPlaces.{∈-permutation}
use Rattle.varisat_prop.specs.declared.prop.watch_list.Watch.{Watch}
use Rattle.varisat_prop.specs.Watches.{literal_in}
use Rattle.varisat_prop.proofs.watching.LongVisited.{listed}
use Rattle.varisat_prop.proofs.views.WellFormedChanges.{stored-kept}
use Rattle.varisat_clause.specs.Stores.{Store, stored_clauses}
use Rattle.varisat_clause.specs.Collected.{live_clauses}
use Rattle.varisat_prop.specs.Simplified.{are_unassigned, without_assigned}
use Rattle.varisat_search.specs.declared.context.Context.{Context}
use Rattle.varisat_search.specs.declared.unit_simplify.UnitFilter.{UnitFilter}
use Rattle.varisat_search.specs.Contexts.{view}
use Rattle.varisat_search.specs.Simplifications.{clause_lines, left_long, left_pairs, with_pairs, LeavesOpen, NotesWatches}
use Rattle.varisat_search.proofs.simplifying.FilteredUnits.{filtered-left, filtered-noted, filtered-place}
use Rattle.varisat_theory.proofs.clauses.Members.{∈-append_left}
use Rattle.varisat_prop.specs.View.{pairs_from, clause_at}
use Rattle.varisat_steps.proofs.Traced.{can_take}
use Rattle.varisat_search.specs.Seen.{search_of}
use Rattle.varisat_search.proofs.simplifying.SimplifiedBinary.{stored-prove, without-pair-lines}
use Rattle.varisat_search.proofs.simplifying.SimplifiedSearch.{IsAtUnits}
use Rattle.varisat_search.proofs.simplifying.SimplifiedContext.{Simplifies, at-units, live-open, joining, is-simplified, simplified-proves, simplified-decidable, simplified-ready}
use Rattle.varisat_search.proofs.unit_simplify.simplify_stored.Given.{Over}
use Rattle.varisat_search.proofs.unit_simplify.simplify_stored.Goals.{In_ok-trace_stored, In_ok-filter_clauses, After-sort_watching, After-mend_lists}
use Rattle.varisat_search.proofs.unit_simplify.simplify_stored.Goals as goal

pub trace_stored-requires : goal.trace_stored-requires
trace_stored-requires g c =
    let x = c.args.ctx.now in
    let s = view x in
    let u = at-units x c.requires.can in
    record {
      sound = c.requires.can.ready.tracks.sound;
      in_range = λ d h. c.requires.can.ready.well.in_range d (∈-append_left d (literals_of s.clauses) (pairs_from 0 s.binary) h);
      able = can_take (g.P.ProofTracer.holds c.args.proof.now) 0 (search_of s) _ (clause_lines s) c.requires.holds (stored-prove s c.requires.left u);
    }

at : (g : Over) (c : In_ok-trace_stored g) → IsAtUnits (view c.args.ctx.now)
at g c = at-units c.args.ctx.now c.requires.can

pub filter_clauses-requires-clause-accepted : goal.filter_clauses-requires-clause-accepted
filter_clauses-requires-clause-accepted g c = live-open c.args.ctx.now (at g (goal.at.filter_clauses-requires-clause-accepted g c).In_ok-trace_stored)

-- what the filter leaves, and notes
abbrev Leaves : (g : Over) → UnitFilter g.row.A.Denot → StoredClause → StoredClause → UnitFilter g.row.A.Denot → Type 0
Leaves g f k j h = (h.assignment ≡ f.assignment) × LeavesOpen f.assignment.now.current k j f.pairs.items h.pairs.items
    × NotesWatches f.assignment.now.current k f.watching.items h.watching.items

-- what the filter left
abbrev IsLeft : List (Option Bool) → Store → Store → List Clause → List Clause → Type 0
IsLeft values old new before pairs = (live_clauses new ≡ left_long values (live_clauses old)) × (pairs ≡ before ++ left_pairs values (live_clauses old))

left : (g : Over) (c : In_ok-filter_clauses g) → IsLeft c.args.ctx.now.assignment.current c.args.ctx.now.clause_alloc c.filter_clauses.new.alloc
    c.new-2.result.items c.filter_clauses.new.filter.pairs.items
left g c =
    filtered-left (λ (f : UnitFilter g.row.A.Denot). f.assignment.now.current) (λ (f : UnitFilter g.row.A.Denot). f.pairs.items)
    (Leaves g) (λ f k j h o. (ap (λ a. a.now.current) o.0, o.1))
    _ c.filter_clauses.new.filter (stored_clauses c.args.ctx.now.clause_alloc)
    (stored_clauses c.filter_clauses.new.alloc) c.in_ok-filter_clauses.ensures.filtered

-- a clause with an assigned literal has noted the literals whose lists name it
noted : (g : Over) (c : In_ok-filter_clauses g) (k : StoredClause) → k ∈ live_clauses c.args.ctx.now.clause_alloc →
    are_unassigned c.args.ctx.now.assignment.current k.literals ≡ false → (j : ℕ) → j < 2 →
    opposite (get_or k.literals j 0) ∈ c.filter_clauses.new.filter.watching.items
noted g c =
    (filtered-noted (λ (f : UnitFilter g.row.A.Denot). f.assignment.now.current) (λ (f : UnitFilter g.row.A.Denot). f.watching.items) (Leaves g)
    (λ f k j h o. (ap (λ a. a.now.current) o.0, o.2)) _ c.filter_clauses.new.filter (stored_clauses c.args.ctx.now.clause_alloc)
    (stored_clauses c.filter_clauses.new.alloc) c.in_ok-filter_clauses.ensures.filtered).noted

-- no other literals are noted
only-noted : (g : Over) (c : In_ok-filter_clauses g) (x : Literal) → x ∈ c.filter_clauses.new.filter.watching.items →
    (k : StoredClause) × (k ∈ live_clauses c.args.ctx.now.clause_alloc) × (l : Literal) × (l ∈ k.literals) × (x ≡ opposite l)
only-noted g c x h =
    ⊎_elim
    (λ i. absurd (subst (λ (ls : List Literal). x ∈ ls) c.new-3.ensures.items i))
    (λ i. i)
    ((filtered-noted (λ (f : UnitFilter g.row.A.Denot). f.assignment.now.current) (λ (f : UnitFilter g.row.A.Denot). f.watching.items) (Leaves g)
    (λ f k j h o. (ap (λ a. a.now.current) o.0, o.2)) _ c.filter_clauses.new.filter (stored_clauses c.args.ctx.now.clause_alloc)
    (stored_clauses c.filter_clauses.new.alloc) c.in_ok-filter_clauses.ensures.filtered).only x h)

sorted : (g : Over) (c : After-sort_watching g) (x : Literal) → x ∈ c.filter_clauses.new.filter.watching.items →
    x ∈ c.sort_watching.new.self.watching.items
sorted g c x h = ∈-permutation c.filter_clauses.new.filter.watching.items c.sort_watching.new.self.watching.items x c.sort_watching.ensures h

pub mend_lists-requires-clause-listed : goal.mend_lists-requires-clause-listed
mend_lists-requires-clause-listed g c = λ l h.
    let here = goal.at.mend_lists-requires-clause-listed g c in
    let x = c.args.ctx.now in
    let i = ∈-permutation c.sort_watching.new.self.watching.items c.filter_clauses.new.filter.watching.items l
    (IsPermutation-sym c.filter_clauses.new.filter.watching.items c.sort_watching.new.self.watching.items c.sort_watching.ensures)
    (subst (λ (ls : List Literal). l ∈ ls) c.deref-2.ensures.value h) in
    let (k, a, m, b, e) = only-noted g here.In_ok-filter_clauses l i in
    let o = listed m (length x.assignment.current)
    (c.requires.can.ready.well.in_range k.literals (stored-kept (view x) k.literals (literals-∈ (live_clauses x.clause_alloc) k a)) m b) in
    let n = c.requires.can.ready.propagated.lists in
    omega (arith, o, n, e)

pub mend_lists-requires-clause-places : goal.mend_lists-requires-clause-places
mend_lists-requires-clause-places g c = λ y w h.
    let x = c.args.ctx.now in
    let p = c.requires.can.ready.propagated in
    let place : IsClauseRef (live_clauses x.clause_alloc) w.cref = ⊎_elim
    (λ (e : x.watchlists.enabled ≡ true). ((p.watching e).known y w h).0)
    (λ (e : x.watchlists.enabled ≡ false). absurd (subst (λ (ws : List Watch). w ∈ ws) (p.empty e y) h))
    (cases_Bool x.watchlists.enabled) in
    filtered-place (Leaves g) _ c.filter_clauses.new.filter (stored_clauses x.clause_alloc) (stored_clauses c.filter_clauses.new.alloc)
    c.in_ok-filter_clauses.ensures.filtered w.cref (live-place (stored_clauses x.clause_alloc) w.cref place)

pub add_pairs-requires : goal.add_pairs-requires
add_pairs-requires g c =
    let here = goal.at.add_pairs-requires g c in
    joining c.args.ctx.now (at g here.In_ok-trace_stored) c.args.ctx.now.binary_clauses c.deref.result.now (sym c.requires.left)
    (c.deref.ensures.value ∙ (left g here.In_ok-filter_clauses).1
    ∙ ap (λ (cs : List Clause). cs ++ left_pairs c.args.ctx.now.assignment.current (live_clauses c.args.ctx.now.clause_alloc)) c.new-2.ensures.items)

-- the lists of what literals imply
joined : (g : Over) (c : After-mend_lists g) → IsLeft c.args.ctx.now.assignment.current c.args.ctx.now.clause_alloc c.filter_clauses.new.alloc
    c.new-2.result.items c.filter_clauses.new.filter.pairs.items →
    c.add_pairs.new.binary_clauses ≡ with_pairs (without_assigned c.args.ctx.now.assignment.current c.args.ctx.now.binary_clauses)
    (left_pairs c.args.ctx.now.assignment.current (live_clauses c.args.ctx.now.clause_alloc))
joined g c l =
    c.in_ok-add_pairs.ensures
    ∙ ap (λ (D : List (List Literal)). with_pairs D c.deref.result.now) (sym c.requires.left)
    ∙ ap (with_pairs (without_assigned c.args.ctx.now.assignment.current c.args.ctx.now.binary_clauses))
    (c.deref.ensures.value ∙ l.1 ∙ ap
    (λ (cs : List Clause). cs ++ left_pairs c.args.ctx.now.assignment.current (live_clauses c.args.ctx.now.clause_alloc)) c.new-2.ensures.items)

-- the search after it
abbrev after : (g : Over) (c : After-mend_lists g) → Context g.row.A.Denot
after g c = record c.args.ctx.now {
  binary_clauses = c.add_pairs.new.binary_clauses;
  clause_alloc = c.filter_clauses.new.alloc;
  clause_db = c.filter_clauses.new.db;
  watchlists =
      c.mend_lists.new.watchlists;
}

simplifies : (g : Over) (c : After-mend_lists g) → IsAtUnits (view c.args.ctx.now) →
    IsLeft c.args.ctx.now.assignment.current c.args.ctx.now.clause_alloc c.filter_clauses.new.alloc c.new-2.result.items
    c.filter_clauses.new.filter.pairs.items → Simplifies c.args.ctx.now (after g c)
simplifies g c u l = record {
  ready = c.requires.can.ready;
  units = u;
  propagated = c.requires.can.propagated;
  tracks = c.filter_clauses.ensures.tracks;
  clauses = l.0;
  binary =
      joined g c l;
  rest = refl;
}

pub returns-clause-simplified : goal.returns-clause-simplified
returns-clause-simplified g c = let here = goal.at.returns-clause-simplified g c in
    is-simplified (simplifies g here.After-mend_lists (at g here.In_ok-trace_stored) (left g here.In_ok-filter_clauses))

pub returns-clause-ready : goal.returns-clause-ready
returns-clause-ready g c =
    let here = goal.at.returns-clause-ready g c in
    simplified-ready (simplifies g here.After-mend_lists (at g here.In_ok-trace_stored) (left g here.In_ok-filter_clauses)) c.deref-2.result.now
    c.mend_lists.ensures (λ i j h e b. subst (λ (ls : List Literal). opposite (literal_in (clause_at (view c.args.ctx.now) i) j) ∈ ls)
    (sym c.deref-2.ensures.value) (sorted g here.After-sort_watching (opposite (literal_in (clause_at (view c.args.ctx.now) i) j))
    (noted g here.In_ok-filter_clauses (stored_at (live_clauses c.args.ctx.now.clause_alloc) i)
    (stored-∈ (live_clauses c.args.ctx.now.clause_alloc) i h) e j b)))

pub returns-clause-proves : goal.returns-clause-proves
returns-clause-proves g c =
    let here = goal.at.returns-clause-proves g c in
    let x = c.args.ctx.now in
    without-pair-lines (view x) c.requires.left (view (after g here.After-mend_lists))
    (simplified-proves (simplifies g here.After-mend_lists (at g here.In_ok-trace_stored) (left g here.In_ok-filter_clauses)))

pub returns-clause-decidable : goal.returns-clause-decidable
returns-clause-decidable g c = let here = goal.at.returns-clause-decidable g c in
    simplified-decidable (simplifies g here.After-mend_lists (at g here.In_ok-trace_stored) (left g here.In_ok-filter_clauses))

-- the lists stay on or off
pub returns-clause-frame : goal.returns-clause-frame
returns-clause-frame g c = ap (λ (on : Bool). record c.args.ctx.now {
  binary_clauses = c.add_pairs.new.binary_clauses;
  clause_alloc = c.filter_clauses.new.alloc;
  clause_db = c.filter_clauses.new.db;
  watchlists = record c.mend_lists.new.watchlists { enabled = on };
}) c.mend_lists.ensures.enabled

pub returns-in_err-trace_stored-clause-broken : goal.returns-in_err-trace_stored-clause-broken
returns-in_err-trace_stored-clause-broken g c =
    error-broken g.P.ProofTracer.breaks_off c.args.proof.now c.trace_stored.new.proof c.from_residual.result c.in_err-trace_stored.field-0.0
    c.from_residual.ensures
    (c.in_err-trace_stored.ensures {u = tt})

pub returns-in_err-filter_clauses-clause-broken : goal.returns-in_err-filter_clauses-clause-broken
returns-in_err-filter_clauses-clause-broken g c =
    error-broken g.P.ProofTracer.breaks_off c.args.proof.now c.trace_stored.new.proof c.from_residual-in_err-filter_clauses.result Memory
    c.from_residual-in_err-filter_clauses.ensures
    (breaks-on g.P.ProofTracer.takes g.P.ProofTracer.breaks_off g.met.P.ProofTracer.breaks_behind (c.in_ok-trace_stored.ensures {u = tt})
    (breaks-not g.P.ProofTracer.breaks_off g.met.P.ProofTracer.breaks_none c.trace_stored.new.proof))

pub returns-in_err-add_pairs-clause-broken : goal.returns-in_err-add_pairs-clause-broken
returns-in_err-add_pairs-clause-broken g c =
    error-broken g.P.ProofTracer.breaks_off c.args.proof.now c.trace_stored.new.proof c.from_residual-in_err-add_pairs.result Memory
    c.from_residual-in_err-add_pairs.ensures
    (breaks-on g.P.ProofTracer.takes g.P.ProofTracer.breaks_off g.met.P.ProofTracer.breaks_behind (c.in_ok-trace_stored.ensures {u = tt})
    (breaks-not g.P.ProofTracer.breaks_off g.met.P.ProofTracer.breaks_none c.trace_stored.new.proof))
