-- A search stays ready as it propagates.
use Rattle.std.proofs.Common.{◌≡◌, inl, refl, sym, ap, subst}
use Rattle.varisat_clause.specs.Databases.{Tracks}
use Rattle.varisat_clause.specs.Shapes.{KeepsShapes}
use Rattle.varisat_clause.proofs.StoreSound.{is-sound}
use Rattle.varisat_clause.proofs.KeptShapes.{tracks-shapes}
use Rattle.varisat_prop.specs.Looks.{Propagates}
use Rattle.varisat_prop.specs.Watches.{IsPropagated}
use Rattle.varisat_search.specs.declared.context.Context.{Context}
use Rattle.varisat_search.specs.AssumptionParts.{HasAssumptions}
use Rattle.varisat_vsids.specs.Activities.{Activities}
use Rattle.varisat_search.specs.Contexts.{view, IsReady, KeepsSchedule}
use Rattle.varisat_search.specs.Frames.{ChangesPropagated, GoesForward}
use Rattle.varisat_search.specs.Decisions.{AreDecidable, CanDecide, SameDecidable}
use Rattle.varisat_search.proofs.assuming.AssumptionContexts.{still-assumable}
use Rattle.varisat_search.proofs.assuming.AssumptionLevels.{has-grown}
use Rattle.varisat_search.proofs.variables.DecidableVariables.{propagated-same, propagated-decidable}
use Rattle.varisat_search.proofs.stepping.StepOutcome.{finding-begins, finding-ready, finding-propagated}

-- Propagation only reorders literals, so that the database still fits the store.
pub propagated-ready : {A : Type 0} (x m : Context A) → IsReady x → Propagates (view x) (view m) → IsPropagated m.watchlists (view m) →
    KeepsShapes x.clause_alloc m.clause_alloc →
    ChangesPropagated x m → IsReady m
propagated-ready {A} x m r p q h k =
    let s = view x in
    let t = view m in
    let same = propagated-same s t x.vsids r.well r.decidable p in
    finding-ready r (finding-propagated s s t (finding-begins r) p) q
    (subst (λ d. Tracks d m.clause_alloc) (sym (ap (λ (y : Context A). y.clause_db) k))
    (tracks-shapes x.clause_db x.clause_alloc m.clause_alloc r.tracks (is-sound m.clause_alloc p.well.sound) h))
    (ap (λ (y : Context A). y.analyze_conflict.var_count) k) (ap (λ (y : Context A). y.tmp_flags.flags.items) k)
    (subst (CanDecide t) (sym (ap (λ (y : Context A). y.vsids) k)) (propagated-decidable s t x.vsids r.well r.decidable p))
    (subst (HasAssumptions t) (sym (ap (λ (y : Context A). y.assumptions) k)) (has-grown s t x.assumptions r.well p.grows (inl p.decisions) r.assumed))
    (subst (λ a. AreDecidable t a m.assumptions.working) (sym (ap (λ (y : Context A). y.vsids) k))
    (subst (λ a. AreDecidable t x.vsids a) (sym (ap (λ (y : Context A). y.assumptions.working) k))
    (still-assumable s x.vsids t x.vsids x.assumptions.working x.assumptions.working same (λ l i. i) r.assumable)))

-- It goes forward, and the same variables are decidable.
pub propagated-forward : {A : Type 0} (x m : Context A) → IsReady x → Propagates (view x) (view m) → m.assignment.last ≡ x.assignment.last →
    ChangesPropagated x m → GoesForward x m
propagated-forward {A} x m r p last k =
    let same = ap (λ (y : Context A). y.vsids) k in
    record {
      decidable = subst (SameDecidable (view x) x.vsids (view m)) (sym same) (propagated-same (view x) (view m) x.vsids r.well r.decidable p);
      activities = subst (λ (a : Activities). a ≡ record x.vsids { available = a.available }) (sym same) refl;
      last = last;
      state = ap (λ (y : Context A). y.solver_state) k;
    }

pub propagated-schedule : {A : Type 0} (x m : Context A) → ChangesPropagated x m → KeepsSchedule x m
propagated-schedule {A} x m k =
    record { schedule = ap (λ (y : Context A). y.schedule) k; solver_config = ap (λ (y : Context A). y.solver_config) k }
