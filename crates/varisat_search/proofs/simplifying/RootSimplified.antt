-- How a search goes on as the root level is simplified, and the step after that.
use Rattle.std.proofs.Common.{◌≡◌, ℕ, ◌<◌, ◌≤◌, Bool, Result, MatchResult, List, [], ◌++◌, length, refl, sym, ap, ◌∙◌, subst, append_assoc}
use Rattle.varisat_theory.specs.promises.Derivations.{Line}
use Rattle.varisat_theory.specs.inside.Outcomes.{SearchOutcome, Proves, Steps}
use Rattle.varisat_theory.specs.inside.Rank.{rank}
use Rattle.varisat_theory.specs.inside.StepLaws.{unit_lines}
use Rattle.varisat_theory.proofs.steps.StepParts.{no_part, parts_join}
use Rattle.varisat_theory.proofs.steps.StepAccounts.{part_step}
use Rattle.varisat_prop.specs.declared.prop.graph.Conflict.{Conflict}
use Rattle.varisat_prop.specs.declared.prop.graph.Conflict.TheVariants as conflict
use Rattle.varisat_theory.specs.promises.Propagation.{IsComplete}
use Rattle.varisat_prop.specs.View.{View, WellFormed, kept, kinds}
use Rattle.varisat_prop.specs.Changes.{IsConflicting}
use Rattle.varisat_prop.specs.Looks.{Propagates}
use Rattle.varisat_prop.proofs.views.SimplifiedView.{HasUnits}
use Rattle.varisat_prop.proofs.views.ViewGrowth.{append-nil, kinds-more}
use Rattle.varisat_search.specs.declared.context.Context.{Context}
use Rattle.varisat_search.specs.AssumptionParts.{AssumptionParts, KeepsAssumptions}
use Rattle.varisat_search.specs.Contexts.{view, IsReady}
use Rattle.varisat_search.specs.Frames.{ChangesPropagated, ChangesSimplified}
use Rattle.varisat_search.specs.Decisions.{SameDecidable}
use Rattle.varisat_search.specs.ProvedUnits.{implied_units, ProvesUnits}
use Rattle.varisat_search.specs.Seen.{search_of}
use Rattle.varisat_search.specs.RootSimplified.{SimplifiesRoot, GoesOnByLines, IsRootSimplified}
use Rattle.varisat_search.specs.Simplifications.{IsSimplified, pair_lines, clause_lines}
use Rattle.varisat_search.specs.Steps.{Remembers}
use Rattle.varisat_search.proofs.assuming.AssumptionSteps.{keeps-after-part}
use Rattle.varisat_search.proofs.variables.DecidableVariables.{same-refl, same-trans, same-read, propagated-same}
use Rattle.varisat_search.proofs.simplifying.ProvedUnits.{units-kinds}
use Rattle.varisat_search.proofs.stepping.StepRanks.{rises-longer, extends-trans, extends-same, extends-grown, remembers-after}
use Rattle.varisat_search.proofs.stepping.StepWithoutLines.{grows_prove}

-- it stays as it is
pub goes-refl : {A : Type 0} (x : Context A) (P : List Line → Type 0) → IsReady x → P [] → GoesOnByLines P x x
goes-refl x P r none = record {
  ready = r;
  proves = ([], no_part (search_of (view x)), none);
  extends = extends-same (view x) (view x) r.well refl refl refl;
  kinds_more = ([], sym (append-nil (kinds (view x))));
  decidable = same-refl (view x) x.vsids;
  last = refl;
}

-- the lines are so in another way too
pub goes-are : {A : Type 0} (x y : Context A) (P Q : List Line → Type 0) → ((lines : List Line) → P lines → Q lines) → GoesOnByLines P x y → GoesOnByLines Q x y
goes-are x y P Q are a = record {
  ready = a.ready;
  proves = let (lines, p, i) = a.proves in (lines, p, are lines i);
  extends = a.extends;
  kinds_more = a.kinds_more;
  decidable = a.decidable;
  last = a.last;
}

-- one after the other
pub goes-trans : {A : Type 0} (x y z : Context A) (P Q R : List Line → Type 0) → ((first more : List Line) → P first → Q more → R (first ++ more)) →
    GoesOnByLines P x y → GoesOnByLines Q y z → GoesOnByLines R x z
goes-trans {A} x y z P Q R join a b =
    let (first, p, i) = a.proves in
    let (more, q, j) = b.proves in
    let (ks, e) = a.kinds_more in
    let (js, f) = b.kinds_more in
    record {
      ready = b.ready;
      proves = (first ++ more, parts_join 0 0 (search_of (view x)) (search_of (view y)) (search_of (view z)) first more p q, join first more i j);
      extends = extends-trans (view x) (view y) (view z) a.extends b.extends;
      kinds_more = (ks ++ js, f ∙ ap (λ (bs : List Bool). bs ++ js) e ∙ append_assoc (kinds (view x)) ks js);
      decidable = same-trans (view x) x.vsids (view y) y.vsids (view z) z.vsids a.decidable b.decidable;
      last = b.last ∙ a.last;
    }

-- propagation
pub goes-propagated : {A : Type 0} (x m : Context A) → IsReady x → IsReady m → Propagates (view x) (view m) →
    m.assignment.last ≡ x.assignment.last →
    ChangesPropagated x m → GoesOnByLines (λ lines. lines ≡ []) x m
goes-propagated {A} x m r q p l k =
    let s = view x in
    let t = view m in
    record {
      ready = q;
      proves = ([], grows_prove s t r.well p.well p.grows, refl);
      extends = extends-grown s t p.well p.grows;
      kinds_more = (_, kinds-more s t p.grows);
      decidable = subst (SameDecidable s x.vsids t) (sym (ap (λ (y : Context A). y.vsids) k)) (propagated-same s t x.vsids r.well r.decidable p);
      last = l;
    }

-- the units are proved
pub goes-proved : {A : Type 0} (x z : Context A) (P : List Line → Type 0) → IsReady x → IsReady z → x.trail.decisions ≡ [] →
    ProvesUnits (view x) (view z) → (lines : List Line) → Proves 0 (search_of (view x)) (search_of (view z)) lines → P lines →
    z ≡ record x { impl_graph = z.impl_graph } → GoesOnByLines P x z
goes-proved {A} x z P r q none p lines h i k = record {
  ready = q;
  proves = (lines, h, i);
  extends = extends-same (view x) (view z) q.well (ap (λ (y : View). y.values) p.rest) (ap (λ (y : View). y.trail) p.rest)
      (ap (λ (y : View). y.decisions) p.rest);
  kinds_more = ([], units-kinds (view x) (view z) r.well none p ∙ sym (append-nil (kinds (view x))));
  decidable = same-read (view x) x.vsids (view z) z.vsids (ap (λ (y : View). y.values) p.rest) (ap (λ (y : Context A). y.vsids.available) k);
  last = ap (λ (y : Context A). y.assignment.last) k;
}

-- the clauses are simplified
pub goes-simplified : {A : Type 0} (x z : Context A) (P : List Line → Type 0) → IsReady z → (lines : List Line) →
    Proves 0 (search_of (view x)) (search_of (view z)) lines → P lines → SameDecidable (view x) x.vsids (view z) z.vsids →
    ChangesSimplified x z →
    GoesOnByLines P x z
goes-simplified {A} x z P q lines h i d k = record {
  ready = q;
  proves = (lines, h, i);
  extends = extends-same (view x) (view z) q.well (ap (λ (y : Context A). (view y).values) k) (ap (λ (y : Context A). (view y).trail) k)
      (ap (λ (y : Context A). (view y).decisions) k);
  kinds_more = ([], ap (λ (y : Context A). kinds (view y)) k ∙ sym (append-nil (kinds (view x))));
  decidable = d;
  last = ap (λ (y : Context A). y.assignment.last) k;
}

-- Propagation at level 0, and then the units are proved.
pub record ProvedAfter {A : Type 0} (x m p : Context A) : Type 0 where
  pub ready : IsReady x
  pub mid_ready : IsReady m
  pub none : m.trail.decisions ≡ []
  pub propagates : Propagates (view x) (view m)
  pub last : m.assignment.last ≡ x.assignment.last
  pub kept : ChangesPropagated x m
  pub end_ready : IsReady p
  pub proved : ProvesUnits (view m) (view p)
  pub proves : Proves 0 (search_of (view m)) (search_of (view p)) (unit_lines (implied_units (view m)))
  pub end_kept : p ≡ record m { impl_graph = p.impl_graph }

module _ {A : Type 0} (x m p : Context A) (d : ProvedAfter x m p) where
  pub goes-to-units : (P : List Line → Type 0) → P (unit_lines (implied_units (view m))) → GoesOnByLines P x p
  goes-to-units P i =
      goes-trans x m p (λ lines. lines ≡ []) P P (λ first more e h. subst (λ lines. P (lines ++ more)) (sym e) h)
      (goes-propagated x m d.ready d.mid_ready d.propagates d.last d.kept)
      (goes-proved m p P d.mid_ready d.end_ready d.none d.proved (unit_lines (implied_units (view m))) d.proves i d.end_kept)

  pub simplifies_root-to-units : (lines : List Line) (t : View) (end : Result (Unit {0}) Conflict) →
      MatchResult end (λ _. IsSimplified (view p) t
      × (lines ≡ unit_lines (implied_units (view m)) ++ (pair_lines (view p) ++ clause_lines (view p))))
      (λ f. (t ≡ view p) × IsConflicting t f × (lines ≡ unit_lines (implied_units (view m)))) →
      MatchResult end (λ _. IsComplete (kept (view m)) (view m).trail) (λ _. Unit {0}) → SimplifiesRoot lines (view x) t end
  simplifies_root-to-units lines t end e complete = record {
    propagated = view m;
    proved = view p;
    propagates = d.propagates;
    units = d.proved;
    complete = complete;
    ends = e;
  }

-- A clause that is false stays so as units are proved.
pub still-conflicting : (s t : View) (f : Conflict) → ProvesUnits s t → IsConflicting s f → IsConflicting t f
still-conflicting s t f p c = subst (λ (y : View). IsConflicting y f) (sym p.rest) (go f c)
  where
    go : (f : Conflict) → IsConflicting s f → IsConflicting (record s { nodes = t.nodes }) f
    go (conflict.Binary ms) c = c
    go (conflict.Long p) c = c

-- Once clauses are simplified, too, nothing is left of the literals of level 0 but their being true.
pub settled-down : (s t : View) → s.decisions ≡ [] → s.queue_head ≡ length s.trail → HasUnits s → IsSimplified s t → IsRootSimplified t
settled-down s t d q h p = subst IsRootSimplified (sym p.rest) record { undecided = d; propagated = q; proved = h; unassigned = p.unassigned }

-- What comes after the root level was simplified.
module _ {A : Type 0} (x y : Context A) (P : List Line → Type 0) (a : GoesOnByLines P x y) where
  pub steps-settled : (t : View) (v : SearchOutcome) (lines : List Line) (Q R : List Line → Type 0) →
      ((first more : List Line) → P first → Q more → R (first ++ more)) → Steps (search_of (view y)) (search_of t) v lines → Q lines →
      (all : List Line) × Steps (search_of (view x)) (search_of t) v all × R all
  steps-settled t v lines Q R join p j = let (first, q, i) = a.proves in
      (first ++ lines, part_step (search_of (view x)) (search_of (view y)) (search_of t) v first lines q p, join first lines i j)

  pub assumes-settled : (v : SearchOutcome) (b : AssumptionParts) → y.assumptions ≡ x.assumptions →
      KeepsAssumptions (search_of (view y)) v y.assumptions b → KeepsAssumptions (search_of (view x)) v x.assumptions b
  assumes-settled v b e k =
      let (lines, q, i) = a.proves in
      keeps-after-part 0 (search_of (view x)) (search_of (view y)) lines v x.assumptions b q (subst (λ c. KeepsAssumptions (search_of (view y)) v c b) e k)

  pub rises-settled : (t : View) → IsReady x → WellFormed t → length t.values ≡ length (view y).values →
      ((n : ℕ) → length (view y).trail ≤ n → rank n (kinds (view y)) < rank n (kinds t)) → (n : ℕ) → length (view x).trail ≤ n →
      rank n (kinds (view x)) < rank n (kinds t)
  rises-settled t r w c h = let (more, e) = a.kinds_more in rises-longer (view x) (view y) t more r.well a.ready.well w e a.extends.count c h

  pub remembers-settled : (new : List Bool) → Remembers (view y) y.assignment.last new → Remembers (view x) x.assignment.last new
  remembers-settled new h = remembers-after (view x) (view y) x.assignment.last new a.extends (subst (λ xs. Remembers (view y) xs new) a.last h)
