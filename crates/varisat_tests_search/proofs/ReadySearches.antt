-- A search stays ready where activities and remembered values change.
use Rattle.std.proofs.Common.{◌≡◌, ◌*◌, false, length, get_or, replicate, ⊎_elim, inl, inr, refl, sym, ap, ◌∙◌, subst}
use Rattle.varisat_theory.specs.promises.Literals.{variable_of}
use Rattle.varisat_prop.specs.Parts.{Values}
use Rattle.varisat_prop.specs.View.{View, WellFormed, PropagatedBeforeDecisions}
use Rattle.varisat_prop.specs.Watches.{IsPropagated}
use Rattle.varisat_vsids.specs.Activities.{Activities}
use Rattle.varisat_search.specs.declared.context.Context.{Context}
use Rattle.varisat_search.specs.Contexts.{view, IsReady}
use Rattle.varisat_search.specs.AssumptionParts.{HasAssumptions}
use Rattle.varisat_search.specs.Decisions.{AreDecidable, CanDecide}
use Rattle.varisat_search.proofs.stepping.ReadyAfter.{ready-with}

pub activities-ready : {A : Type 0} {x : Context A} (a : Activities) → length a.activity ≡ length x.vsids.activity →
    a.available ≡ x.vsids.available → IsReady x → IsReady (record x { vsids = a })
activities-ready {A} {x} a n e r =
    ready-with x (record x { vsids = a }) r refl refl refl r.propagated
    (record {
      entries = record { activity = n ∙ r.decidable.entries.activity; available = ap (λ xs. length xs) e ∙ r.decidable.entries.available };
      decidable = λ c i l j. ⊎_elim inl (λ h. inr (ap (λ xs. get_or xs (variable_of l) false) e ∙ h)) (r.decidable.decidable c i l j);
    })
    r.assumed (λ l i. ⊎_elim inl (λ h. inr (ap (λ xs. get_or xs (variable_of l) false) e ∙ h)) (r.assumable l i))

pub values-ready : {A : Type 0} {x : Context A} (a : Values) → a.current ≡ x.assignment.current → IsReady x → IsReady (record x { assignment = a })
values-ready {A} {x} a e r =
    let v : view (record x { assignment = a }) ≡ view x = ap (λ vs. record (view x) { values = vs }) e in
    record {
      well = subst WellFormed (sym v) r.well;
      settled = subst PropagatedBeforeDecisions (sym v) r.settled;
      propagated = subst (IsPropagated x.watchlists) (sym v) r.propagated;
      tracks = r.tracks;
      analysis = r.analysis ∙ ap (λ vs. length vs) (sym e);
      flags = r.flags ∙ ap (λ vs. replicate (2 * length vs) false) (sym e);
      decidable = subst (λ (s : View). CanDecide s x.vsids) (sym v) r.decidable;
      assumed = subst (λ (s : View). HasAssumptions s x.assumptions) (sym v) r.assumed;
      assumable = subst (λ (s : View). AreDecidable s x.vsids x.assumptions.working) (sym v) r.assumable;
    }
