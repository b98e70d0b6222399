-- What stays does so through one function after another.
use Rattle.std.proofs.Common.{◌≡◌, ℕ, ◌<◌, ◌≤◌, length, Result, IsErr, ⊎_elim, refl, subst, sym, ap, ◌∙◌}
use Rattle.std.proofs.lemmas.Bool.{cases_lt}
use Rattle.std.proofs.lemmas.Result.{MatchResult-from_err}
use Rattle.varisat_clause.proofs.StoreSound.{is-sound}
use Rattle.varisat_prop.specs.View.{View}
use Rattle.varisat_analysis.specs.Learned.{Shows}
use Rattle.varisat_search.specs.declared.context.Context.{Context}
use Rattle.varisat_search.specs.Contexts.{view, IsReady, KeepsSchedule}
use Rattle.varisat_vsids.specs.Activities.{Activities}
use Rattle.varisat_search.specs.Decisions.{MakesAvailable}
use Rattle.varisat_search.specs.Frames.{GoesForward, SearchesOn, KeepsVariables}
use Rattle.varisat_search.proofs.variables.DecidableVariables.{same-refl, same-trans, same-read}

-- What analysis sees of a search.
pub shown : {A : Type 0} (x : Context A) (s : View) → IsReady x → view x ≡ s → Shows s x.clause_alloc x.impl_graph.nodes.items x.trail
shown x s r e = subst (λ (t : View). Shows t x.clause_alloc x.impl_graph.nodes.items x.trail) e
    (record { sound = is-sound x.clause_alloc r.well.sound; clauses_are = refl; nodes_are = refl; trail_is = refl; decisions_are = refl })

pub schedule-nothing : {A : Type 0} (x : Context A) → KeepsSchedule x x
schedule-nothing x = record { schedule = refl; solver_config = refl }

pub schedule-through : {A : Type 0} {x y z : Context A} → KeepsSchedule x y → KeepsSchedule y z → KeepsSchedule x z
schedule-through a b = record { schedule = b.schedule ∙ a.schedule; solver_config = b.solver_config ∙ a.solver_config }

pub forward-nothing : {A : Type 0} (x : Context A) → GoesForward x x
forward-nothing x = record { decidable = same-refl (view x) x.vsids; activities = refl; last = refl; state = refl }

pub forward-through : {A : Type 0} {x y z : Context A} → GoesForward x y → GoesForward y z → GoesForward x z
forward-through {x = x} {y = y} {z = z} a b = record {
  decidable = same-trans (view x) x.vsids (view y) y.vsids (view z) z.vsids a.decidable b.decidable;
  activities = b.activities ∙ ap (λ (v : Activities). record v { available = z.vsids.available }) a.activities;
  last = b.last ∙ a.last;
  state = b.state ∙ a.state;
}

-- it stopped with an error
pub searches-fails : {A R E : Type 0} {x y : Context A} (r : Result R E) → IsErr r → KeepsSchedule x y → SearchesOn r x y
searches-fails {x = x} {y = y} r e k = record { forward = MatchResult-from_err r (λ _. GoesForward x y) _ e (λ _. tt); schedule = k }

-- nothing of it was written
pub forward-same : {A : Type 0} (x y : Context A) → (view y).values ≡ (view x).values → y.vsids ≡ x.vsids →
    y.assignment.last ≡ x.assignment.last → y.solver_state ≡ x.solver_state → GoesForward x y
forward-same x y v a l s = record {
  decidable = same-read (view x) x.vsids (view y) y.vsids v (ap (λ (b : Activities). b.available) a);
  activities = subst (λ (b : Activities). b ≡ record x.vsids { available = b.available }) (sym a) refl;
  last = l;
  state = s;
}

pub variables-nothing : {A : Type 0} (x : Context A) → KeepsVariables x x
variables-nothing x = record { decidable = same-refl (view x) x.vsids; decay = refl; count = refl }

pub variables-through : {A : Type 0} {x y z : Context A} → KeepsVariables x y → KeepsVariables y z → KeepsVariables x z
variables-through {x = x} {y = y} {z = z} a b = record {
  decidable = same-trans (view x) x.vsids (view y) y.vsids (view z) z.vsids a.decidable b.decidable;
  decay = b.decay ∙ a.decay;
  count = b.count ∙ a.count;
}

-- backtracking changes no activity
pub cut-activities : {A : Type 0} (x1 x2 : Context A) (level : ℕ) → (length x1.trail.decisions ≤ level → x2 ≡ x1) →
    (level < length x1.trail.decisions → MakesAvailable (view x1) level x1.vsids x2.vsids) → x2.vsids ≡ record x1.vsids { available = x2.vsids.available }
cut-activities {A} x1 x2 level same cut =
    ⊎_elim
    (λ h. (cut h).rest)
    (λ h. let e = ap (λ (y : Context A). y.vsids) (same h) in e ∙ ap (λ xs. record x1.vsids { available = xs }) (sym (ap (λ (a : Activities). a.available) e)))
    (cases_lt level (length x1.trail.decisions))
