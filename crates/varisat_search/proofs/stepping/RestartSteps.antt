-- A step that may begin with a restart.
use Rattle.std.proofs.Common.{◌≡◌, ℕ, ◌<◌, ◌≤◌, List, [], length, ⊎_elim, refl, sym, ap, subst, arith}
use Rattle.std.proofs.lemmas.List.{length-map}
use Rattle.varisat_theory.specs.inside.Rank.{rank}
use Rattle.varisat_theory.specs.promises.Derivations.{Line}
use Rattle.varisat_theory.specs.inside.Outcomes.{SearchOutcome, Proves, Steps}
use Rattle.varisat_theory.proofs.steps.StepAccounts.{part_step}
use Rattle.varisat_prop.specs.View.{View, WellFormed, PropagatedBeforeDecisions, node_of, is_implied, kinds}
use Rattle.varisat_prop.specs.Watches.{Watches, IsPropagated}
use Rattle.varisat_schedule.specs.Plans.{Plan}
use Rattle.varisat_schedule.specs.CallSteps.{IsPlannedStep}
use Rattle.varisat_search.specs.Restarts.{MayRestart, RestartsByPolicy}
use Rattle.varisat_search.specs.Seen.{search_of}
use Rattle.varisat_search.specs.Steps.{IsCut}
use Rattle.varisat_search.proofs.stepping.Backtrack.{end-inside, cut-length, cut-well, cut-settled, cut-propagated}
use Rattle.varisat_search.proofs.learning.LearnLines.{cut_moves}
use Rattle.varisat_theory.proofs.steps.StepParts.{no_part}

-- What the step finds once it has begun.
pub record Begun (s t : View) : Type 0 where
  pub well : WellFormed t
  pub settled : PropagatedBeforeDecisions t
  pub count : length t.values ≡ length s.values
  pub shorter : length t.trail ≤ length s.trail
  pub proves : Proves 0 (search_of s) (search_of t) []

begun-same : (s : View) → WellFormed s → PropagatedBeforeDecisions s → Begun s s
begun-same s w v = record { well = w; settled = v; count = refl; shorter = omega arith; proves = no_part (search_of s) }

begun-cut : (s t : View) (level : ℕ) → WellFormed s → PropagatedBeforeDecisions s → (h : level < length s.decisions) → IsCut s t level → Begun s t
begun-cut s t level w v h c =
    let n = ap (λ (x : View). length x.trail) c.rest in
    let m = cut-length s t level w h c in
    let e = end-inside s t level w h c in
    record {
      well = cut-well s t level w h c;
      settled = cut-settled s t level w h c v;
      count = c.count;
      shorter = omega (arith, n, m, e);
      proves =
          cut_moves s t level w h c;
    }

-- What the policy does may be done: the one place that has to follow where the policy changes.
pub permitted : {glue : ℕ} (q : Plan) (level : ℕ) (s t : View) → RestartsByPolicy glue q level s t → MayRestart q level s t
permitted q level s t r = r.may

-- what holds of a view in which nothing changes, and of one in which decisions are undone
pub restart-elim : {glue : ℕ} (q : Plan) (level : ℕ) (s t : View) (P : View → Type 0) → RestartsByPolicy glue q level s t → P s →
    (level < length s.decisions → IsCut s t level → P t) → P t
restart-elim q level s t P r same cut = ⊎_elim (λ e. subst P (sym e) same) (λ (h, c). cut h c) (permitted q level s t r).undone

-- no decision stands above the level
pub restart-undecided : {glue : ℕ} (q : Plan) (level : ℕ) (s t : View) → RestartsByPolicy glue q level s t → length s.decisions ≤ level → t ≡ s
restart-undecided q level s t r n = ⊎_elim (λ e. e) (λ (h, c). absurd (omega (arith, n, h))) (permitted q level s t r).undone

module _ {glue : ℕ} (q : Plan) (level : ℕ) (s t : View) (w : WellFormed s) (v : PropagatedBeforeDecisions s) (r : RestartsByPolicy glue q level s t) where
  pub begun-view : Begun s t
  begun-view = restart-elim q level s t (Begun s) r (begun-same s w v) (begun-cut s t level w v)

  pub begun-propagated : (W : Watches) → IsPropagated W s → IsPropagated W t
  begun-propagated W p = restart-elim q level s t (IsPropagated W) r p (λ h c. cut-propagated s t level w h c W p)

  -- the lines of the step
  pub begun-steps : (u : View) (o : SearchOutcome) (lines : List Line) → Steps (search_of t) (search_of u) o lines → Steps (search_of s) (search_of u) o lines
  begun-steps u o lines k = part_step (search_of s) (search_of t) (search_of u) o [] lines begun-view.proves k

  -- and the rank after it
  pub begun-rises : (u : View) → ((n : ℕ) → length t.trail ≤ n → rank n (kinds t) < rank n (kinds u)) → IsPlannedStep (length s.values) q (kinds s) (kinds u)
  begun-rises u rises =
      let flags = length-map s.trail (λ l. is_implied (node_of s l)) in
      let b = begun-view.shorter in
      record {
        rises = λ d n h. subst (λ (x : View). rank n (kinds x) < rank n (kinds u)) ((permitted q level s t r).stays d) (rises n (omega (arith, flags, b, h)));
        restarts = λ d n h. let a = rises n (omega (arith, flags, b, h)) in omega (arith, a);
      }
