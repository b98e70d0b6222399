-- What becomes of a search with the next assumption.
use Rattle.std.proofs.Common.{◌≡◌, ℕ, ◌<◌, List, ◌++◌, ◌∷◌, [], length, get_or, ⊎_elim, refl, sym, ap, ◌∙◌, subst, arith, length-set}
use Rattle.varisat_theory.specs.promises.Membership.{◌∈◌, ◌⊆◌}
use Rattle.varisat_theory.specs.promises.Literals.{Literal, opposite, variable_of, MakesTrue}
use Rattle.varisat_theory.specs.promises.Propagation.{IsComplete}
use Rattle.varisat_theory.proofs.clauses.Places.{∈-get_or, place_in}
use Rattle.varisat_prop.specs.declared.prop.graph.Reason.TheVariants as reason
use Rattle.varisat_prop.specs.Parts.{IsMadeTrue}
use Rattle.varisat_prop.specs.View.{View, kept, IsTrueIn, decision_at, WellFormed}
use Rattle.varisat_prop.specs.Changes.{decided_on}
use Rattle.varisat_prop.proofs.trails.LiteralValues.{made-none}
use Rattle.varisat_search.specs.declared.context.Context.{Context}
use Rattle.varisat_search.specs.AssumptionParts.{AssumptionParts, HasAssumptions, HasFailed, TakesOutTrue, TakesOutImplied}
use Rattle.varisat_analysis.specs.FailedCores.{ListsFailedCore}
use Rattle.varisat_search.specs.Contexts.{view, IsReady}
use Rattle.varisat_search.specs.Decisions.{AreDecidable, SameDecidable}
use Rattle.varisat_vsids.specs.Activities.{Activities}
use Rattle.varisat_search.specs.Steps.{IsFree, assignment_of}
use Rattle.varisat_search.specs.Frames.{ChangesDecided, ClearsFlags}
use Rattle.varisat_prop.proofs.views.ViewGrowth.{grows-refl}
use Rattle.varisat_search.proofs.learning.AssumedTruths.{takes-same, takes-trans}
use Rattle.varisat_search.proofs.assuming.AssumptionLevels.{has-taken, taken-out, all-assumed, has-decided}
use Rattle.varisat_search.proofs.assuming.AssumptionContexts.{still-assumable}
use Rattle.varisat_search.proofs.variables.DecidableVariables.{can-decide, enqueued-same}
use Rattle.varisat_search.proofs.stepping.PropagatedBeforeDecisions.{makes-true}
use Rattle.varisat_search.proofs.stepping.ReadyAfter.{ready-with, decided-ready}

-- a core of the assumption that failed is one of assumptions, where all decisions are such
pub core-assumed : (s : View) (y : AssumptionParts) (l : Literal) (core : List Literal) → HasAssumptions s y → y.levels ≡ length s.decisions →
    l ∈ y.working → ListsFailedCore s l core → core ⊆ y.working
core-assumed s y l core h e i f x m =
    ⊎_elim
    (λ q. subst (λ z. z ∈ y.working) (sym q) i)
    (λ (j, b, q).
    let j' : j < y.levels = omega (arith, b, e) in
    let k = h.listed in
    subst (λ z. z ∈ y.working) (sym (h.decided j j') ∙ q) (∈-get_or y.working j 0 (omega (arith, j', k))))
    (f.decided x m)

-- where each assumption has its level, all are true
pub model-assumed : (s : View) (x : AssumptionParts) → WellFormed s → HasAssumptions s x → x.levels ≡ length x.working → MakesTrue (assignment_of s) x.working
model-assumed s x w h e l i =
    let (j, b, q) = place_in l x.working 0 i in
    let j' : j < x.levels = omega (arith, b, e) in
    let r = h.reached in
    let d = (w.decided j (omega (arith, j', r))).0 in
    makes-true s l (subst (IsTrueIn s) (h.decided j j' ∙ q) (w.is_true (decision_at s j) d))

module _ {A : Type 0} (x : Context A) (y : AssumptionParts) (r : IsReady x)
    (t : TakesOutTrue x.assignment.current (length x.trail.decisions) x.assumptions y) where
  left-levels : HasAssumptions (view x) y
  left-levels = has-taken (view x) x.assumptions y r.well r.assumed t

  left-decidable : AreDecidable (view x) x.vsids y.working
  left-decidable l i = r.assumable l (t.part l i)

  pub left-implied : TakesOutImplied (view x) x.assumptions y
  left-implied = taken-out (view x) x.assumptions y r.well r.assumed t

  -- the same list, with other levels or another core
  pub left-implied-with : (z : AssumptionParts) → z.user ≡ y.user → z.user_core ≡ y.user_core → z.working ≡ y.working → TakesOutImplied (view x) x.assumptions z
  left-implied-with z u c e = takes-trans (view x) (view x) x.assumptions y z (grows-refl (view x)) left-implied (takes-same (view x) y z u c e)

  pub none-ready : IsReady (record x { assumptions = y })
  none-ready = ready-with x (record x { assumptions = y }) r refl refl refl r.propagated r.decidable left-levels left-decidable

  -- one is left for the level
  module _ (l : Literal) (n : length x.trail.decisions < length y.working) (e : l ≡ get_or y.working (length x.trail.decisions) 0) where
    next-in : l ∈ y.working
    next-in = subst (λ z. z ∈ y.working) (sym e) (∈-get_or y.working (length x.trail.decisions) 0 n)

    pub next-inside : variable_of l < length x.assignment.current
    next-inside = left-levels.in_range l next-in

    -- it is false
    pub failed-levels : (core : List Literal) → HasAssumptions (view x) (record y { failed_core = core })
    failed-levels core = let h = left-levels in record { reached = h.reached; listed = h.listed; decided = h.decided; first = h.first; in_range = h.in_range }

    pub failed-ready : (z : Context A) (core : List Literal) →
        (z ≡ record x { assumptions = record y { failed_core = core }; tmp_flags = z.tmp_flags }) × ClearsFlags x z → IsReady z
    failed-ready z core (k, f) =
        subst IsReady (sym k)
        (ready-with x (record x { assumptions = record y { failed_core = core }; tmp_flags = z.tmp_flags }) r refl refl f r.propagated r.decidable
        (failed-levels core) left-decidable)

    pub has-failed : (core : List Literal) → ListsFailedCore (view x) l core → HasFailed (view x) (record y { failed_core = core })
    has-failed core f = (l, f, core-assumed (view x) y l core left-levels (all-assumed (view x) x.assumptions y r.well r.assumed t n) next-in f)

    -- it has no value
    pub next-free : (IsMadeTrue x.assignment.current l → ⊥) → (IsMadeTrue x.assignment.current (opposite l) → ⊥) → IsFree (view x) l
    next-free a b = (next-inside, made-none x.assignment.current l a b)

    pub next-same : (z : Context A) → IsFree (view x) l → view z ≡ decided_on (view x) l → z.vsids ≡ x.vsids → SameDecidable (view x) x.vsids (view z) z.vsids
    next-same z free d k =
        let s = record (view x) { decisions = (view x).decisions ++ length (view x).trail ∷ [] } in
        subst (λ u. SameDecidable (view x) x.vsids u z.vsids) (sym d)
        (subst (SameDecidable (view x) x.vsids (decided_on (view x) l)) (sym k)
        (enqueued-same s x.vsids l reason.Unit free.0 (r.assumable l (t.part l next-in))))

    pub next-ready : (z : Context A) (m : ℕ) → IsComplete (kept (view x)) x.trail.literals → x.trail.queue_head ≡ length x.trail.literals →
        IsFree (view x) l → view z ≡ decided_on (view x) l → m ≡ length z.trail.decisions →
        z ≡ record x {
          assignment = z.assignment;
          assumptions = record y { levels = m };
          counters = z.counters;
          impl_graph = z.impl_graph;
          trail =
              z.trail;
        } → IsReady z
    next-ready z m q head free d c k =
        let vsids = ap (λ (u : Context A). u.vsids) k in
        let list = ap (λ (u : Context A). u.assumptions) k in
        let same = next-same z free d vsids in
        let count : length (view z).values ≡ length (view x).values = ap (λ (u : View). length u.values) d ∙ length-set (view x).values (variable_of l) _ in
        let entries = r.decidable.entries in
        let levels = has-decided (view x) y l r.well left-levels (all-assumed (view x) x.assumptions y r.well r.assumed t n) n e m
        (c ∙ ap (λ (u : View). length u.decisions) d) in
        decided-ready x z l r q head free d (subst (λ (u : Context A). ChangesDecided x u) (sym k) refl)
        (can-decide (view x) x.vsids (view z) z.vsids
        (record {
          activity = ap (λ (a : Activities). length a.activity) vsids ∙ entries.activity
              ∙ sym count;
          available = ap (λ (a : Activities). length a.available) vsids ∙ entries.available ∙ sym count;
        })
        same
        (λ f i. r.decidable.decidable f (subst (λ ks. f ∈ ks) (ap kept d) i)))
        (subst (λ a. HasAssumptions (view z) a) (sym list) (subst (λ u. HasAssumptions u (record y { levels = m })) (sym d) levels))
        (still-assumable (view x) x.vsids (view z) z.vsids x.assumptions.working z.assumptions.working same
        (λ p i. t.part p (subst (λ (a : AssumptionParts). p ∈ a.working) list i)) r.assumable)
