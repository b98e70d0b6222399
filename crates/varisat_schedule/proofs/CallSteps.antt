-- How the steps of a call by a schedule stand to the rank of the trail.
use Rattle.std.proofs.Common.{◌≡◌, ℕ, suc, ◌+◌, ◌-◌, ◌*◌, ◌^◌, ◌<◌, ◌≤◌, ◌↔◌, Bool, IsTrue, List, length, ◌⊎◌, ⊎_elim, inl, inr, subst, sym, ap, ◌∙◌, refl, arith, ne_eqb}
use Rattle.std.proofs.lemmas.Bool.{cases_lt}
use Rattle.varisat_theory.specs.inside.Rank.{rank}
use Rattle.varisat_theory.specs.promises.CallBounds.{AreFew, CallSetting, CallProgress}
use Rattle.varisat_theory.proofs.bounds.Ranks.{rank_bound}
use Rattle.varisat_theory.proofs.bounds.IntervalBounds.{total_bound}
use Rattle.varisat_theory.proofs.bounds.CallBounds.{progress_start, progress_rises, progress_restarts, progress_within, progress_bound}
use Rattle.varisat_schedule.specs.Plans.{Plan, IsPlan, IsDue, step_begun, next_plan, plan_after, PlannedCall, setting_of}
use Rattle.varisat_schedule.specs.CallSteps.{steps_since, AllowsRestart, IsPlannedStep, HasComeTo, AreSpent}
use Rattle.varisat_schedule.proofs.RestartPlans.{due-point, short-interval}

-- the call over n variables
abbrev over : ℕ → PlannedCall → CallSetting
over n c = setting_of (record c { variables = n })

none : (p : Plan) → 0 ≡ steps_since p p
none p = omega arith

pub begins : (c : PlannedCall) (trail : List Bool) → IsPlan c.begins → HasComeTo c c.begins trail
begins c trail i = record {
  is_plan = i;
  counted = omega arith;
  plan = ap (plan_after c.scale c.begins) (none c.begins);
  progress = λ n h. subst (λ k. CallProgress (over n c) k (rank n trail)) (none c.begins) (progress_start (over n c) (rank n trail));
}

-- the bound holds with one step more
pub is-short : (c : PlannedCall) (q : Plan) (trail : List Bool) (n : ℕ) → 0 < c.scale → length trail ≤ c.variables → c.variables ≤ n →
    HasComeTo c q trail → AreFew n (suc (steps_since c.begins q))
is-short c q trail n h l v r =
    let b = rank_bound n trail (omega (arith, l, v)) in
    let p = progress_bound (over n c) (steps_since c.begins q) (rank n trail) h b (r.progress n v) in
    let t = total_bound n in
    (p, omega (arith, p, t))

pub due-or-not : (q : Plan) → IsDue q ⊎ (IsDue q → ⊥)
due-or-not q =
    ⊎_elim
    (λ (x : q.steps < q.next_restart). inr (λ e. omega (arith, e, x)))
    (λ (x : q.next_restart ≤ q.steps). ⊎_elim (λ (y : q.next_restart < q.steps). inr (λ e. omega (arith, e, y)))
    (λ (y : q.steps ≤ q.next_restart). inl (omega (arith, x, y))) (cases_lt q.next_restart q.steps))
    (cases_lt q.steps q.next_restart)

-- a step that begins where no restart is due leaves the plan as it was
begun-same : (scale : ℕ) (p : Plan) → (IsDue p → ⊥) → step_begun scale p ≡ p
begun-same scale p n = rw (ne_eqb p.steps p.next_restart n) refl

-- what the plan behind a step's beginning tells of the plan before it
pub allowed-begun : (n scale : ℕ) (p q : Plan) (b : Bool) → q ≡ step_begun scale p → (IsTrue b ↔ IsDue p) →
    IsTrue b ⊎ (q.next_restart < 2 ^ suc n) → AllowsRestart n p
allowed-begun n scale p q b e d (inl t) = inl (d.0 t)
allowed-begun n scale p q b e d (inr s) =
    ⊎_elim inl
    (λ (k : IsDue p → ⊥). let f = ap (λ (x : Plan). x.next_restart) (e ∙ begun-same scale p k) in inr (omega (arith, s, f)))
    (due-or-not p)

pub allows-or-not : (n : ℕ) (q : Plan) → AllowsRestart n q ⊎ (AllowsRestart n q → ⊥)
allows-or-not n q =
    ⊎_elim
    (λ d. inl (inl d))
    (λ (d : IsDue q → ⊥).
    ⊎_elim (λ (s : q.next_restart < 2 ^ suc n). inl (inr s)) (λ (s : 2 ^ suc n ≤ q.next_restart). inr (λ a. ⊎_elim d (λ (b : q.next_restart < 2 ^ suc n). omega (arith, b, s)) a))
    (cases_lt q.next_restart (2 ^ suc n)))
    (due-or-not q)

-- one more step
module _ (c : PlannedCall) (q : Plan) (before after : List Bool) (h : 0 < c.scale) (l : q.steps < 2 ^ 64 - 1) (short : length before ≤ c.variables)
    (s : IsPlannedStep c.variables q before after) (r : HasComeTo c q before) where
  made : ℕ
  made = steps_since c.begins q

  so-far : c.begins.steps + made ≡ q.steps
  unfolding made
  so-far = let e = r.counted in omega (arith, e)

  one-more : suc made ≡ steps_since c.begins (next_plan c.scale q)
  unfolding made
  one-more = let e = r.counted in omega (arith, e)

  due : IsDue q → (n : ℕ) → c.variables ≤ n → CallProgress (over n c) (suc made) (rank n after)
  unfolding made
  due d n v =
      let e = so-far in
      let (i, p) = due-point c h r.is_plan made (omega (arith, e, l)) (subst IsDue r.plan d) in
      let b = rank_bound n before (omega (arith, short, v)) in
      let up = s.restarts (inl d) n (omega (arith, short, v)) in
      progress_restarts (over n c) made (rank n before) (rank n after) i p (omega (arith, e, l)) (omega (arith, b)) up (r.progress n v)

  -- a step that may restart between two points
  within : (IsDue q → ⊥) → q.next_restart < 2 ^ suc c.variables → (n : ℕ) → c.variables ≤ n → CallProgress (over n c) (suc made) (rank n after)
  unfolding made
  within d w n v =
      let e = so-far in
      let (i, p) = short-interval c h r.is_plan n made v (omega (arith, e, l)) (λ x. d (subst IsDue (sym r.plan) x))
      (subst (λ (x : Plan). x.next_restart < 2 ^ suc c.variables) r.plan w) in
      let b = rank_bound n before (omega (arith, short, v)) in
      let up = s.restarts (inr w) n (omega (arith, short, v)) in
      progress_within (over n c) made (rank n before) (rank n after) i p (omega (arith, e, l)) (omega (arith, b)) up (r.progress n v)

  may : AllowsRestart c.variables q → (n : ℕ) → c.variables ≤ n → CallProgress (over n c) (suc made) (rank n after)
  may (inl d) n v = due d n v
  may (inr w) n v = ⊎_elim (λ d. due d n v) (λ d. within d w n v) (due-or-not q)

  not-allowed : (AllowsRestart c.variables q → ⊥) → (n : ℕ) → c.variables ≤ n → CallProgress (over n c) (suc made) (rank n after)
  unfolding made
  not-allowed d n v =
      let e = so-far in
      let b = rank_bound n before (omega (arith, short, v)) in
      progress_rises (over n c) made (rank n before) (rank n after) (s.rises d n (omega (arith, short, v))) (omega (arith, e, l)) (omega (arith, b))
      (r.progress n v)

  progress-next : (n : ℕ) → c.variables ≤ n → CallProgress (over n c) (suc made) (rank n after)
  progress-next n v = ⊎_elim (λ d. may d n v) (λ d. not-allowed d n v) (allows-or-not c.variables q)

  pub goes-on : HasComeTo c (next_plan c.scale q) after
  unfolding made
  goes-on = record {
    is_plan = r.is_plan;
    counted = let e = r.counted in omega (arith, e);
    plan = ap (next_plan c.scale) r.plan ∙ ap (plan_after c.scale c.begins) one-more;
    progress = λ n v. subst (λ k. CallProgress (over n c) k (rank n after)) one-more (progress-next n v);
  }

pub large-budget : (n max_steps : ℕ) (p q : Plan) → steps_since p q < 2 ^ (2 * n + 3) → 2 ^ (2 * n + 3) ≤ max_steps →
    p.steps + 2 ^ (2 * n + 3) < 2 ^ 64 → AreSpent max_steps p q → ⊥
large-budget n max_steps p q k b l s = ⊎_elim (λ e. omega (arith, e, b, k)) (λ e. omega (arith, e, l, k)) s
