-- What steps keep of assumptions together.
use Rattle.std.proofs.Common.{◌≡◌, ◌≢◌, ℕ, List, [], refl, sym, ◌∙◌, subst}
use Rattle.varisat_theory.specs.promises.Membership.{◌∈◌, ◌⊆◌}
use Rattle.varisat_theory.specs.promises.Literals.{Literal, Clause, Assignment, SatisfiesAll, MakesTrue}
use Rattle.varisat_theory.specs.promises.Derivations.{Line}
use Rattle.varisat_theory.specs.promises.Searches.{Search, Fits}
use Rattle.varisat_theory.specs.inside.Outcomes.{SearchOutcome, Unknown, Sat, UnsatUnder, Proves, Steps, MakesSteps}
use Rattle.varisat_theory.proofs.clauses.Sound.{derives_sound}
use Rattle.varisat_theory.proofs.journals.StepCounts.{by_derives}
use Rattle.varisat_prop.specs.View.{View, WellFormed}
use Rattle.varisat_search.specs.AssumptionParts.{AssumptionParts, KeepsAssumptions, TakesOutImplied}
use Rattle.varisat_search.specs.Seen.{search_of}
use Rattle.varisat_search.proofs.stepping.ViewSearch.{view_reads}

-- Whatever clauses fit the first search, such as fit the second are satisfied with them.
abbrev pub StaysSatisfied : Search → Search → Type 0
StaysSatisfied s t = (held : List Clause) → Fits held s → (after : List Clause) × Fits after t × ((a : Assignment) → SatisfiesAll a held → SatisfiesAll a after)

pub part-leads : (n : ℕ) (s t : Search) (lines : List Line) → Proves n s t lines → StaysSatisfied s t
part-leads n s t lines p held f =
    let (after, d, g) = p.holds held f in
    (after, g, λ a. derives_sound held lines after a (by_derives n held lines after d))

pub step-leads : (s t : Search) (lines : List Line) → Steps s t Unknown lines → StaysSatisfied s t
step-leads s t lines p held f =
    let (after, d, g, n) = p.holds held f in
    (after, g, λ a. derives_sound held lines after a (by_derives 1 held lines after d))

pub steps-lead : (k : ℕ) (s t : Search) (lines : List Line) → MakesSteps k s t Unknown lines → StaysSatisfied s t
steps-lead k s t lines p held f =
    let (after, d, g) = p.holds held f in
    (after, g, λ a. derives_sound held lines after a (by_derives k held lines after d))

pub keeps-refl : (s : Search) (x : AssumptionParts) → KeepsAssumptions s Unknown x x
keeps-refl s x = record {
  user = refl;
  user_core = refl;
  part = λ l i. i;
  implied = λ held f a sat made. made;
  model = λ found e. absurd cc;
  core = λ c e. absurd cc;
}

-- What a search keeps of assumptions, and then the one that it leads to.
pub keeps-joined : (s t : Search) (v w : SearchOutcome) (x y z : AssumptionParts) → StaysSatisfied s t → KeepsAssumptions s w x y →
    KeepsAssumptions t v y z → KeepsAssumptions s v x z
keeps-joined s t v w x y z l p q = record {
  user = q.user ∙ p.user;
  user_core = q.user_core ∙ p.user_core;
  part = λ m i. p.part m (q.part m i);
  implied = λ held f a sat made. let (after, g, h) = l held f in p.implied held f a sat (q.implied after g a (h a sat) made);
  model = q.model;
  core = λ c e. let (part, some) = q.core c e in ((λ m i. p.part m (part m i)), some);
}

-- Steps that went on keep the assumptions together with what comes after them.
pub keeps-after-steps : (k : ℕ) (s t : Search) (lines : List Line) (v : SearchOutcome) (x y z : AssumptionParts) → MakesSteps k s t Unknown lines →
    KeepsAssumptions s Unknown x y → KeepsAssumptions t v y z → KeepsAssumptions s v x z
keeps-after-steps k s t lines v x y z m = keeps-joined s t v Unknown x y z (steps-lead k s t lines m)

-- a part of a step before, which leaves the assumptions
pub keeps-after-part : (n : ℕ) (s t : Search) (lines : List Line) (v : SearchOutcome) (x y : AssumptionParts) → Proves n s t lines →
    KeepsAssumptions t v x y → KeepsAssumptions s v x y
keeps-after-part n s t lines v x y p = keeps-joined s t v Unknown x x y (part-leads n s t lines p) (keeps-refl s x)

-- only the count of levels changes afterwards
pub keeps-other-levels : (s : Search) (v : SearchOutcome) (x y z : AssumptionParts) → z.working ≡ y.working → z.user ≡ y.user →
    z.user_core ≡ y.user_core → KeepsAssumptions s v x y → KeepsAssumptions s v x z
keeps-other-levels s v x y z e u c p = record {
  user = u ∙ p.user;
  user_core = c ∙ p.user_core;
  part = λ l i. p.part l (subst (λ ws. l ∈ ws) e i);
  implied = λ held f a sat made. p.implied held f a sat (subst (MakesTrue a) e made);
  model = λ found g. subst (MakesTrue found) (sym e) (p.model found g);
  core = p.core;
}

-- What was taken out of the view's assumptions is implied over the search that a proof sees.
pub keeps-taken : (s : View) (v : SearchOutcome) (x y : AssumptionParts) → WellFormed s → TakesOutImplied s x y →
    ((found : Assignment) → v ≡ Sat found → MakesTrue found y.working) → ((c : List Literal) → v ≡ UnsatUnder c → (c ⊆ x.working) × (c ≢ [])) →
    KeepsAssumptions (search_of s) v x y
keeps-taken s v x y w t m c = record {
  user = t.user;
  user_core = t.user_core;
  part = t.part;
  implied = λ held f. t.implied held (view_reads s held w f);
  model = m;
  core = c;
}
