-- What a step with assumptions comes to.
use Rattle.std.proofs.Common.{◌≡◌, Result, Err, MatchResult, List, [], length, ◌⊎◌, inl, inr, sym, ap, ◌∙◌, subst}
use Rattle.varisat_theory.specs.promises.Membership.{◌∈◌}
use Rattle.varisat_theory.specs.promises.Literals.{Literal, Assignment, MakesTrue}
use Rattle.varisat_theory.specs.inside.Outcomes.{SearchOutcome, Unknown, Sat, Unsat, UnsatUnder, Steps}
use Rattle.varisat_theory.proofs.steps.StepEnds.{core_is_found}
use Rattle.varisat_prop.specs.View.{View, WellFormed}
use Rattle.varisat_search.specs.declared.state.SatState.{SatState}
use Rattle.varisat_search.specs.declared.state.SatState.TheVariants as verdict
use Rattle.varisat_search.specs.AssumptionParts.{AssumptionParts, HasAssumptions, HasFailed, KeepsAssumptions, TakesOutImplied}
use Rattle.varisat_search.specs.Seen.{search_of, outcome_of}
use Rattle.varisat_search.specs.Steps.{assignment_of}
use Rattle.varisat_search.proofs.assuming.AssumptionContexts.{IsSameList}
use Rattle.varisat_search.proofs.assuming.AssumptionSteps.{keeps-taken, keeps-other-levels}
use Rattle.varisat_search.proofs.assuming.NextAssumption.{model-assumed}
use Rattle.varisat_search.proofs.stepping.ViewSearch.{view_reads}

abbrev found-in : Assignment → SearchOutcome → Assignment
found-in d Unknown = d
found-in d (Sat a) = a
found-in d Unsat = d
found-in d (UnsatUnder c) = d

abbrev core-in : SearchOutcome → List Literal
core-in Unknown = []
core-in (Sat a) = []
core-in Unsat = []
core-in (UnsatUnder c) = c

-- what is known of an error that was found
pub error-is : {E : Type 0} (P : Type 0) (Q : E → Type 0) {r : Result (Unit {0}) E} {f e : E} → r ≡ Err f → f ≡ e → MatchResult r (λ _. P) Q → Q e
error-is P Q i j m = subst Q j (subst (λ r. MatchResult r (λ _. P) Q) i m)

-- a core was found
pub core-steps : (s : View) (x : AssumptionParts) → WellFormed s → HasFailed s x → Steps (search_of s) (search_of s) (UnsatUnder x.failed_core) []
core-steps s x w (l, f, part) = core_is_found (search_of s) x.failed_core (λ held i. f.conflicts held (view_reads s held w i))

-- a model
pub keeps-model : (s t : View) (x y : AssumptionParts) → WellFormed s → WellFormed t → TakesOutImplied s x y → HasAssumptions t y →
    y.levels ≡ length y.working → KeepsAssumptions (search_of s) (Sat (assignment_of t)) x y
keeps-model s t x y w v k h e =
    keeps-taken s (Sat (assignment_of t)) x y w k
    (λ found f. subst (λ a. MakesTrue a y.working) (ap (found-in (assignment_of t)) f) (model-assumed t y v h e))
    (λ c f. absurd cc)

-- a core of assumptions
pub keeps-core : (s t : View) (x y : AssumptionParts) → WellFormed s → TakesOutImplied s x y → HasFailed t y →
    KeepsAssumptions (search_of s) (UnsatUnder y.failed_core) x y
keeps-core s t x y w k (l, f, part) =
    keeps-taken s (UnsatUnder y.failed_core) x y w k
    (λ found g. absurd cc)
    (λ c g. (
      (λ m i. k.part m (part m (subst (λ d. m ∈ d) (sym (ap core-in g)) i))),
      (λ e. subst (λ d. l ∈ d) (ap core-in g ∙ e) f.failed_in),
    ))

-- a clause was learned
pub keeps-learned : (s t : View) (x y z : AssumptionParts) (core : List Literal) (b : SatState) → WellFormed s → TakesOutImplied s x y →
    IsSameList y z → (b ≡ verdict.Unknown) ⊎ (b ≡ verdict.Unsat) → KeepsAssumptions (search_of s) (outcome_of t core b) x z
keeps-learned s t x y z core b w k e o =
    let v = outcome_of t core b in
    keeps-other-levels (search_of s) v x y z (ap (λ (a : AssumptionParts). a.working) e) (ap (λ (a : AssumptionParts). a.user) e)
    (ap (λ (a : AssumptionParts). a.user_core) e)
    (keeps-taken s v x y w k (λ found f. absurd (no-model found o f)) (λ c f. absurd (no-core c o f)))
  where
    no-model : (found : Assignment) → (b ≡ verdict.Unknown) ⊎ (b ≡ verdict.Unsat) → outcome_of t core b ≡ Sat found → ⊥
    no-model found (inl g) f = let h : Unknown ≡ Sat found = sym (ap (outcome_of t core) g) ∙ f in cc
    no-model found (inr g) f = let h : Unsat ≡ Sat found = sym (ap (outcome_of t core) g) ∙ f in cc

    no-core : (c : List Literal) → (b ≡ verdict.Unknown) ⊎ (b ≡ verdict.Unsat) → outcome_of t core b ≡ UnsatUnder c → ⊥
    no-core c (inl g) f = let h : Unknown ≡ UnsatUnder c = sym (ap (outcome_of t core) g) ∙ f in cc
    no-core c (inr g) f = let h : Unsat ≡ UnsatUnder c = sym (ap (outcome_of t core) g) ∙ f in cc
