-- How `find_conflict` comes to a conflict or a model.
use Rattle.std.proofs.Common.{◌≡◌, ℕ, ◌+◌, ◌*◌, ◌%◌, ◌<◌, ◌≤◌, Bool, true, false, Result, Ok, Err, MatchResult, [], ◌∷◌, length, replicate, refl, sym, ap, ◌∙◌, subst, eq-eqb, ne_eqb, arith, length-append}
use Rattle.varisat_theory.specs.promises.Literals.{Literal, variable_of, literal_of}
use Rattle.varisat_theory.specs.promises.Propagation.{IsComplete}
use Rattle.varisat_literals.specs.promises.Numbers.{polarity_of}
use Rattle.varisat_clause.specs.Databases.{Tracks}
use Rattle.varisat_prop.specs.View.{View, kept, WellFormed, PropagatedBeforeDecisions, GrowsTrail}
use Rattle.varisat_prop.specs.Watches.{IsPropagated}
use Rattle.varisat_prop.specs.Changes.{decided_on}
use Rattle.varisat_prop.specs.Looks.{Propagates}
use Rattle.varisat_prop.proofs.views.ViewGrowth.{grows-refl, grows-trans}
use Rattle.varisat_prop.proofs.trails.EnqueueAssignment.{decided-well, decided-grows}
use Rattle.varisat_prop.proofs.trails.TrailValues.{trail-short}
use Rattle.varisat_search.specs.declared.context.Context.{Context}
use Rattle.varisat_search.specs.Contexts.{view, IsReady}
use Rattle.varisat_search.specs.Steps.{IsFree}
use Rattle.varisat_search.specs.AssumptionParts.{HasAssumptions}
use Rattle.varisat_search.specs.Decisions.{AreDecidable, CanDecide}
use Rattle.varisat_search.proofs.stepping.PropagatedBeforeDecisions.{settled-grows, settled-decided}

-- On the way to a conflict or a model: the view is ready for more, and has grown.
pub record Finding (s t : View) : Type 0 where
  pub well : WellFormed t
  pub settled : PropagatedBeforeDecisions t
  pub grows : GrowsTrail s t

-- a ready search, in which nothing was looked for yet
pub finding-begins : {A : Type 0} {x : Context A} → IsReady x → Finding (view x) (view x)
finding-begins {x = x} r = record { well = r.well; settled = r.settled; grows = grows-refl (view x) }

-- it stays ready, since no variable is added
pub finding-ready : {A : Type 0} {x y : Context A} → IsReady x → Finding (view x) (view y) → IsPropagated y.watchlists (view y) →
    Tracks y.clause_db y.clause_alloc → y.analyze_conflict.var_count ≡ x.analyze_conflict.var_count →
    y.tmp_flags.flags.items ≡ x.tmp_flags.flags.items → CanDecide (view y) y.vsids → HasAssumptions (view y) y.assumptions →
    AreDecidable (view y) y.vsids y.assumptions.working → IsReady y
finding-ready r f p t a b d h k = record {
  well = f.well;
  settled = f.settled;
  propagated = p;
  tracks = t;
  analysis = a ∙ r.analysis ∙ sym f.grows.count;
  flags = b ∙ r.flags ∙ ap (λ n. replicate (2 * n) false) (sym f.grows.count);
  decidable = d;
  assumed = h;
  assumable = k;
}

pub finding-propagated : (s t u : View) → Finding s t → Propagates t u → Finding s u
finding-propagated s t u f p = record {
  well = p.well;
  settled = settled-grows t u f.well p.grows p.decisions f.settled;
  grows =
      grows-trans s t u f.grows p.grows;
}

pub finding-decided : (s t u : View) (l : Literal) → Finding s t → IsComplete (kept t) t.trail → IsFree t l → u ≡ decided_on t l → Finding s u
finding-decided s t u l f q r e =
    subst (Finding s) (sym e) record {
      well = decided-well t l f.well r.0 r.1;
      settled = settled-decided t l f.well q f.settled;
      grows = grows-trans s t (decided_on t l) f.grows (decided-grows t l f.well r.0 r.1);
    }

-- the trail gets longer, and is no longer than there are variables
pub decided-longer : (t u : View) (l : Literal) → WellFormed u → u ≡ decided_on t l → (length t.trail < length u.trail) × (length u.trail ≤ length u.values)
decided-longer t u l w e =
    let n = ap (λ (x : View). length x.trail) e in
    let m = length-append t.trail (l ∷ []) in
    (omega (arith, n, m), trail-short u w)

pub not-err : {X E : Type 0} (r : Result X E) (A : X → Type 0) (B : E → Type 0) → ((e : E) → r ≡ Err e → ⊥) → MatchResult r A B → (x : X) × A x
not-err (Ok x) A B n h = (x, h)
not-err (Err e) A B n h = absurd (n e refl)
