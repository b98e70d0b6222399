-- A search stays ready as it backtracks and decides.
use Rattle.std.proofs.Common.{◌≡◌, ◌<◌, false, [], length, arith, ℕ, ◌*◌, ◌≤◌, Bool, Option, List, replicate, ⊎_elim, sym, ap, ◌∙◌, subst}
use Rattle.varisat_theory.specs.promises.Membership.{◌∈◌}
use Rattle.varisat_theory.specs.promises.Literals.{Literal, variable_of}
use Rattle.varisat_theory.proofs.clauses.Places.{∈-get_or}
use Rattle.varisat_clause.specs.Stored.{StoredClause}
use Rattle.varisat_clause.proofs.StoredClauses.{literals-∈}
use Rattle.varisat_prop.proofs.views.WellFormedChanges.{stored-kept}
use Rattle.varisat_clause.specs.Databases.{Tracks}
use Rattle.varisat_prop.specs.View.{View, WellFormed, kept, PropagatedBeforeDecisions}
use Rattle.varisat_prop.specs.Watches.{watches_of, literal_in, IsPropagated}
use Rattle.varisat_search.specs.declared.context.Context.{Context}
use Rattle.varisat_search.specs.Contexts.{view, IsReady}
use Rattle.varisat_search.specs.Frames.{ChangesKept, ChangesDecided}
use Rattle.varisat_analysis.specs.Reductions.{Discards}
use Rattle.varisat_search.proofs.simplifying.DiscardedClauses.{discards-may}
use Rattle.std.proofs.lemmas.Bool.{cases_lt}
use Rattle.varisat_theory.specs.promises.Propagation.{IsComplete}
use Rattle.varisat_prop.specs.declared.prop.graph.ImplNode.{ImplNode}
use Rattle.varisat_prop.specs.Changes.{decided_on}
use Rattle.varisat_prop.proofs.watching.WatchKept.{propagated-decided}
use Rattle.varisat_search.specs.AssumptionParts.{HasAssumptions}
use Rattle.varisat_search.specs.ContextChanges.{BacktracksTo}
use Rattle.varisat_search.specs.Decisions.{AreDecidable, CanDecide}
use Rattle.varisat_search.specs.Steps.{IsFree}
use Rattle.varisat_search.proofs.assuming.AssumptionContexts.{still-assumable, unmoved-assumed, unmoved-assumable, cut-assumed, cut-same-list, same-working}
use Rattle.varisat_search.proofs.stepping.Backtrack.{cut-well, cut-settled, cut-propagated}
use Rattle.varisat_search.proofs.simplifying.ClausesExchanged.{MayExchange, exchanged-well, exchanged-settled, exchanged-off, exchanged-decide}
use Rattle.varisat_search.proofs.variables.DecidableVariables.{can-decide}
use Rattle.varisat_search.proofs.stepping.StepOutcome.{finding-begins, finding-ready, finding-decided}

-- The levels above the given one are undone.
pub backtracked-ready : {A : Type 0} (level : ℕ) (old new : Context A) → IsReady old → BacktracksTo level old new → IsReady new
backtracked-ready {A} level old new r b =
    ⊎_elim
    (λ (h : level < length old.trail.decisions).
    let c = b.cut h in
    let same : kept (view new) ≡ kept (view old) = ap kept c.rest in
    record {
      well = cut-well (view old) (view new) level r.well h c;
      settled = cut-settled (view old) (view new) level r.well h c r.settled;
      propagated = subst (λ W. IsPropagated W (view new)) (sym (ap (λ (x : Context A). x.watchlists) b.kept))
          (cut-propagated (view old) (view new) level r.well h c old.watchlists r.propagated);
      tracks = subst (λ (x : Context A). Tracks x.clause_db x.clause_alloc) (sym b.kept) r.tracks;
      analysis = ap (λ (x : Context A). x.analyze_conflict.var_count) b.kept ∙ r.analysis ∙ sym c.count;
      flags = ap (λ (x : Context A). x.tmp_flags.flags.items) b.kept ∙ r.flags ∙ ap (λ n. replicate (2 * n) false) (sym c.count);
      decidable = can-decide (view old) old.vsids (view new) new.vsids b.entries b.decidable (λ d i. r.decidable.decidable d (subst (λ ks. d ∈ ks) same i));
      assumed = cut-assumed level old new b.same b.assumptions r.well b.cut r.assumed;
      assumable = still-assumable (view old) old.vsids (view new) new.vsids old.assumptions.working new.assumptions.working b.decidable
          (same-working old.assumptions new.assumptions (cut-same-list level old new b.same b.assumptions)) r.assumable;
    })
    (λ (h : length old.trail.decisions ≤ level). subst IsReady (sym (b.same h)) r)
    (cases_lt level (length old.trail.decisions))

-- Parts that neither the clauses nor the literals' values stand in are others.
pub ready-with : {A : Type 0} (x y : Context A) → IsReady x →
    (y ≡ record x {
      analyze_conflict = y.analyze_conflict;
      assumptions = y.assumptions;
      counters = y.counters;
      schedule = y.schedule;
      solver_state =
          y.solver_state;
      tmp_flags = y.tmp_flags;
      vsids = y.vsids;
      watchlists = y.watchlists;
    }) →
    y.analyze_conflict.var_count ≡ x.analyze_conflict.var_count → y.tmp_flags.flags.items ≡ x.tmp_flags.flags.items →
    IsPropagated y.watchlists (view x) → CanDecide (view x) y.vsids → HasAssumptions (view x) y.assumptions →
    AreDecidable (view x) y.vsids y.assumptions.working → IsReady y
ready-with x y r e n f w d h k =
    subst IsReady (sym e) record {
      well = r.well;
      settled = r.settled;
      propagated = w;
      tracks = r.tracks;
      analysis = n ∙ r.analysis;
      flags = f
          ∙ r.flags;
      decidable = d;
      assumed = h;
      assumable = k;
    }

-- What stays of a search whose clauses, reasons and watches are others.
pub record KeepsValues {A : Type 0} (x z : Context A) : Type 0 where
  pub values : z.assignment.current ≡ x.assignment.current
  pub trail : z.trail.literals ≡ x.trail.literals
  pub decisions : z.trail.decisions ≡ x.trail.decisions
  pub analysis : z.analyze_conflict.var_count ≡ x.analyze_conflict.var_count
  pub flags : z.tmp_flags.flags.items ≡ x.tmp_flags.flags.items
  pub vsids : z.vsids ≡ x.vsids
  pub assumptions : z.assumptions ≡ x.assumptions

pub keeps-values : {A : Type 0} (x z : Context A) → ChangesKept x z → KeepsValues x z
keeps-values {A} x z e = record {
  values = ap (λ (y : Context A). y.assignment.current) e;
  trail = ap (λ (y : Context A). y.trail.literals) e;
  decisions = ap (λ (y : Context A). y.trail.decisions) e;
  analysis = ap (λ (y : Context A). y.analyze_conflict.var_count) e;
  flags = ap (λ (y : Context A). y.tmp_flags.flags.items) e;
  vsids = ap (λ (y : Context A). y.vsids) e;
  assumptions = ap (λ (y : Context A). y.assumptions) e;
}

-- Such a search is ready where the clauses, the reasons and the watches are right.
pub exchanged-ready : {A : Type 0} (x z : Context A) → IsReady x → KeepsValues x z → WellFormed (view z) → PropagatedBeforeDecisions (view z) →
    IsPropagated z.watchlists (view z) → Tracks z.clause_db z.clause_alloc → CanDecide (view z) x.vsids → IsReady z
exchanged-ready x z r k well settled propagated tracks decidable =
    let c = ap (λ (vs : List (Option Bool)). length vs) k.values in
    record {
      well = well;
      settled = settled;
      propagated = propagated;
      tracks = tracks;
      analysis = k.analysis ∙ r.analysis ∙ sym c;
      flags = k.flags ∙ r.flags ∙ ap (λ n. replicate (2 * n) false) (sym c);
      decidable = subst (CanDecide (view z)) (sym k.vsids) decidable;
      assumed = unmoved-assumed x z k.assumptions k.values r.well k.trail k.decisions r.assumed;
      assumable = unmoved-assumable x z k.assumptions k.values k.vsids r.assumable;
    }

-- They are, once clauses and reasons are exchanged for such that may stand for them, and the watch lists are off.
pub unwatched-ready : {A : Type 0} (x z : Context A) (ns : List ImplNode) → IsReady x → KeepsValues x z → MayExchange (view x) (view z).clauses ns →
    view z ≡ record (view x) { clauses = (view z).clauses; nodes = ns } → Tracks z.clause_db z.clause_alloc →
    length z.watchlists.lists ≡ length x.watchlists.lists → ((l : Literal) → watches_of z.watchlists l ≡ []) → z.watchlists.enabled ≡ false → IsReady z
unwatched-ready x z ns r k m e tracks n none off =
    let s = view x in
    let ks = (view z).clauses in
    exchanged-ready x z r k
    (subst WellFormed (sym e) (exchanged-well s ks ns r.well m))
    (subst PropagatedBeforeDecisions (sym e) (exchanged-settled s ks ns r.well m r.settled))
    (subst (IsPropagated z.watchlists) (sym e) (exchanged-off s ks ns r.well m x.watchlists z.watchlists r.propagated n none off))
    tracks
    (subst (λ (t : View). CanDecide t x.vsids) (sym e) (exchanged-decide s ks ns r.well m x.vsids r.decidable))

-- A literal is decided, once propagation has come to its end.
pub decided-ready : {A : Type 0} (x z : Context A) (l : Literal) → IsReady x → IsComplete (kept (view x)) x.trail.literals →
    x.trail.queue_head ≡ length x.trail.literals → IsFree (view x) l → view z ≡ decided_on (view x) l →
    ChangesDecided x z →
    CanDecide (view z) z.vsids → HasAssumptions (view z) z.assumptions → AreDecidable (view z) z.vsids z.assumptions.working → IsReady z
decided-ready {A} x z l r q head free e k d h a =
    let f = finding-decided (view x) (view x) (view z) l (finding-begins r) q free e in
    let p = subst (IsPropagated x.watchlists) (sym e) (propagated-decided x.watchlists (view x) l r.well head r.propagated) in
    finding-ready r f
    (subst (λ W. IsPropagated W (view z)) (sym (ap (λ (y : Context A). y.watchlists) k)) p)
    (subst (λ (y : Context A). Tracks y.clause_db y.clause_alloc) (sym k) r.tracks)
    (ap (λ (y : Context A). y.analyze_conflict.var_count) k) (ap (λ (y : Context A). y.tmp_flags.flags.items) k) d h a

-- The contexts of `reduce_locals`.

-- it stays ready, with the watch lists off
pub discards-ready : {A : Type 0} (x z : Context A) → IsReady x → Discards (view x) (view z) → Tracks z.clause_db z.clause_alloc →
    length z.watchlists.lists ≡ length x.watchlists.lists → ((l : Literal) → watches_of z.watchlists l ≡ []) → z.watchlists.enabled ≡ false →
    ChangesKept x z → IsReady z
discards-ready x z r d t n e o k = unwatched-ready x z (view x).nodes r (keeps-values x z k) (discards-may (view x) (view z) r.well d) d.rest t n e o

-- the first literal of each clause is of a known variable
pub first-known : (s : View) → WellFormed s → (k : StoredClause) → k ∈ s.clauses → variable_of (literal_in k.literals 0) < length s.values
first-known s w k h =
    let c = stored-kept s k.literals (literals-∈ s.clauses k h) in
    w.in_range k.literals c (literal_in k.literals 0) (∈-get_or k.literals 0 0 (let n = w.several k.literals c in omega (arith, n)))
