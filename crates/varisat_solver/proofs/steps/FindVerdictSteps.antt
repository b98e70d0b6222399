-- The steps of a search for a verdict.
use Rattle.std.proofs.Common.{◌≡◌, ◌≢◌, ℕ, suc, ◌+◌, ◌-◌, ◌*◌, ◌^◌, ◌<◌, ◌≤◌, Bool, true, false, length, ◌⊎◌, ⊎_elim, Option, Result, Ok, Err, refl, ap, ◌∙◌, sym, arith}
use Rattle.std.specs.Result.{IsErr}
use Rattle.varisat_search.specs.declared.error.StepError.{StepError}
use Rattle.varisat_search.specs.declared.error.StepError.TheVariants as step
use Rattle.std.proofs.lemmas.Bool.{cases_lt}
use Rattle.varisat_theory.specs.promises.CallBounds.{AreFew}
use Rattle.varisat_theory.proofs.bounds.CallBounds.{few_below}
use Rattle.varisat_names.specs.promises.Settings.{Settings}
use Rattle.varisat_search.specs.declared.context.Context.{Context}
use Rattle.varisat_search.specs.declared.state.SatState.TheVariants as verdict
use Rattle.varisat_search.specs.Contexts.{IsReady}
use Rattle.varisat_schedule.specs.Plans.{Plan, IsPlan, next_plan}
use Rattle.varisat_schedule.specs.CallSteps.{steps_since}
use Rattle.varisat_solver.specs.promises.Budgets.{returned_verdict, CountsSteps}
use Rattle.varisat_solver.specs.inside.SinceChange.{call_from, HasComeSince, GoesOnSince, CountsSince}
use Rattle.varisat_solver.specs.declared.solver.SolverError.{SolverError}
use Rattle.varisat_solver.specs.declared.solver.SolverError.TheVariants.{Interrupted}
use Rattle.varisat_solver.specs.promises.Refusals.{step_refusal}
use Rattle.varisat_solver.proofs.steps.SinceSteps.{come-now, few-since}

-- The search came on within its budget, since whatever moment it came to the first context.
pub record HasMade {A : Type 0} (x y : Context A) (max_steps : ℕ) : Type 0 where
  pub plan : IsPlan x.schedule
  pub since : GoesOnSince x y
  pub budget : steps_since x.schedule y.schedule ≤ max_steps

pub none-made : {A : Type 0} (x : Context A) (max_steps : ℕ) → IsPlan x.schedule → HasMade x x max_steps
none-made x max_steps i = record { plan = i; since = λ c k. k; budget = omega arith }

-- a search that can't keep a clause isn't interrupted
no-interrupt : (e : StepError) (r : Result Bool SolverError) → r ≡ Err (step_refusal e) → r ≡ Err Interrupted → ⊥
no-interrupt step.Full r p f = let z = sym p ∙ f in cc
no-interrupt step.Memory r p f = let z = sym p ∙ f in cc
no-interrupt (step.Target cause) r p f = let z = sym p ∙ f in cc

-- how steps are counted where one came to no end
refused-counts : (n max_steps since before after made : ℕ) (e : StepError) → after ≡ before + made → made ≤ max_steps →
    AreFew n (since + made) → CountsSteps n max_steps since before after (Err (step_refusal e))
refused-counts n max_steps since before after made e count budget bounded = record {
  made = made;
  count = count;
  budget = budget;
  bounded = bounded;
  found = λ a f. absurd cc;
  spent = λ f. absurd (no-interrupt e (Err (step_refusal e)) refl f);
}

-- What is known as the search came from the first context to the second.
pub record Searching {A : Type 0} (x y : Context A) (max_steps : ℕ) : Type 0 where
  pub scaled : 0 < x.solver_config.luby_restart_interval_scale
  pub begins : IsReady x
  pub unknown : x.solver_state.sat_state ≡ verdict.Unknown
  pub count : length y.assignment.current ≡ length x.assignment.current
  pub config : y.solver_config ≡ x.solver_config
  pub made : HasMade x y max_steps

pub searching-at : {A : Type 0} (x y : Context A) (max_steps : ℕ) → 0 < x.solver_config.luby_restart_interval_scale → IsReady x →
    x.solver_state.sat_state ≡ verdict.Unknown → length y.assignment.current ≡ length x.assignment.current → y.solver_config ≡ x.solver_config →
    HasMade x y max_steps → Searching x y max_steps
searching-at x y max_steps h r u n f m = record { scaled = h; begins = r; unknown = u; count = n; config = f; made = m }

module _ {A : Type 0} {x y : Context A} {max_steps : ℕ} (d : Searching x y max_steps) where
  scaled-here : 0 < y.solver_config.luby_restart_interval_scale
  scaled-here = let h = d.scaled in let e = ap (λ (s : Settings). s.luby_restart_interval_scale) d.config in omega (arith, h, e)

  from-first : HasComeSince (call_from x) y
  from-first = d.made.since (call_from x) (come-now x d.begins d.made.plan)

  pub not-less : x.schedule.steps ≤ y.schedule.steps
  not-less = from-first.come.come.counted

  pub so-far : y.schedule.steps ≡ x.schedule.steps + steps_since x.schedule y.schedule
  so-far = let k = not-less in omega (arith, k)

  -- the bound holds with one step more
  few-made : AreFew (length x.assignment.current) (suc (steps_since x.schedule y.schedule))
  few-made = few-since (call_from x) y (length x.assignment.current) scaled-here (let e = d.count in omega (arith, e)) from-first

  module _ (changed_at : ℕ) (r : CountsSince changed_at x) where
    few-here : (n : ℕ) → length x.assignment.current ≤ n → AreFew n (suc (y.schedule.steps - changed_at))
    few-here n h =
        let (c, e, k) = r.come d.unknown in
        few_below n (suc (y.schedule.steps - changed_at)) (suc (steps_since c.begins y.schedule)) (omega (arith, e))
        (few-since c y n scaled-here (let q = d.count in omega (arith, q, h)) (d.made.since c k))

    few-both : (n : ℕ) → length x.assignment.current ≤ n →
        AreFew n (suc ((x.schedule.steps - changed_at) + steps_since x.schedule y.schedule))
    few-both n h =
        let l = r.low in
        let k = not-less in
        few_below n (suc ((x.schedule.steps - changed_at) + steps_since x.schedule y.schedule)) (suc (y.schedule.steps - changed_at)) (omega (arith, l, k))
        (few-here n h)

    few-now : (n : ℕ) → length x.assignment.current ≤ n → AreFew n ((x.schedule.steps - changed_at) + steps_since x.schedule y.schedule)
    few-now n h =
        let k = (x.schedule.steps - changed_at) + steps_since x.schedule y.schedule in
        few_below n k (suc k) (omega arith) (few-both n h)

    -- where it stops here it can go on
    pub since-stopped : CountsSince changed_at y
    since-stopped = record {
      low = let l = r.low in let k = not-less in omega (arith, l, k);
      few = λ n h. few_below n (y.schedule.steps - changed_at) (suc (y.schedule.steps - changed_at)) (omega arith)
          (few-here n (let q = d.count in omega (arith, q, h)));
      come = λ u. let (c, e, k) = r.come d.unknown in (c, e, d.made.since c k);
    }

    -- the steps are spent
    pub counts-spent : (steps_since x.schedule y.schedule ≡ max_steps) ⊎ (y.schedule.steps ≡ 2 ^ 64 - 1) → (n : ℕ) →
        length x.assignment.current ≤ n → CountsSteps n max_steps (x.schedule.steps - changed_at) x.schedule.steps y.schedule.steps (Err Interrupted)
    counts-spent s n h = record {
      made = steps_since x.schedule y.schedule;
      count = so-far;
      budget = d.made.budget;
      bounded = few-now n h;
      found = λ b e. absurd cc;
      spent = λ _. s;
    }

    -- a clause could not be kept in the step behind them
    pub counts-refused : (error : StepError) (steps : ℕ) → steps ≡ y.schedule.steps → (n : ℕ) → length x.assignment.current ≤ n →
        CountsSteps n max_steps (x.schedule.steps - changed_at) x.schedule.steps steps (Err (step_refusal error))
    counts-refused error steps e n h = refused-counts n max_steps (x.schedule.steps - changed_at) x.schedule.steps steps
        (steps_since x.schedule y.schedule) error (e ∙ so-far) d.made.budget (few-now n h)

pub logged-refused : (r : Result (Option Bool) StepError) → IsErr r → (e : StepError) × (returned_verdict r ≡ Err (step_refusal e))
logged-refused (Ok x) h = absurd (let z : false ≡ true = h in cc)
logged-refused (Err e) h = (e, refl)

-- the tests at the loop's head
pub not-spent : (p q : Plan) (max_steps first steps : ℕ) → first ≡ p.steps → steps ≡ q.steps → (steps - first ≡ max_steps → ⊥) → steps_since p q ≢ max_steps
not-spent p q max_steps first steps e f n o = n (omega (arith, e, f, o))

pub room : (q : Plan) (steps : ℕ) → steps ≡ q.steps → steps < 2 ^ 64 → (steps ≡ 2 ^ 64 - 1 → ⊥) → q.steps < 2 ^ 64 - 1
room q steps e l n =
    ⊎_elim (λ (a : steps < 2 ^ 64 - 1). omega (arith, e, a)) (λ (a : 2 ^ 64 - 1 ≤ steps). absurd (n (omega (arith, a, l)))) (cases_lt steps (2 ^ 64 - 1))

-- The contexts of a step of the call that began with x: before it and after it.
pub record Stepping {A : Type 0} (x y z : Context A) (max_steps : ℕ) : Type 0 where
  pub searching : Searching x y max_steps
  pub left : steps_since x.schedule y.schedule ≢ max_steps
  pub next : z.schedule ≡ next_plan y.solver_config.luby_restart_interval_scale y.schedule
  pub same_count : length z.assignment.current ≡ length y.assignment.current

module _ {A : Type 0} {x y z : Context A} {max_steps : ℕ} (d : Stepping x y z max_steps) where
  counted : z.schedule.steps ≡ suc y.schedule.steps
  counted = ap (λ (p : Plan). p.steps) d.next

  pub one-more : steps_since x.schedule y.schedule + 1 ≡ steps_since x.schedule z.schedule
  one-more = let k = not-less d.searching in let e = counted in omega (arith, k, e)

  -- a step was made
  pub stepping-moved : z.schedule.steps ≡ x.schedule.steps → ⊥
  stepping-moved e = let k = not-less d.searching in let f = counted in omega (arith, k, e, f)

  within : suc (steps_since x.schedule y.schedule) ≤ max_steps
  within =
      let k = d.searching.made.budget in
      ⊎_elim (λ (a : steps_since x.schedule y.schedule < max_steps). omega (arith, a))
      (λ (a : max_steps ≤ steps_since x.schedule y.schedule). absurd (d.left (omega (arith, k, a))))
      (cases_lt (steps_since x.schedule y.schedule) max_steps)

  pub stepping-goes-on : GoesOnSince y z → HasMade x z max_steps
  stepping-goes-on s = record {
    plan = d.searching.made.plan;
    since = λ c k. s c (d.searching.made.since c k);
    budget = let a = within in let k = one-more in omega (arith, a, k);
  }

  -- it finds a verdict
  pub stepping-counts : (b : Bool) (n changed_at : ℕ) → length x.assignment.current ≤ n → CountsSince changed_at x →
      CountsSteps n max_steps (x.schedule.steps - changed_at) x.schedule.steps z.schedule.steps (Ok b)
  stepping-counts b n changed_at h r = record {
    made = suc (steps_since x.schedule y.schedule);
    count = let k = so-far d.searching in let e = counted in omega (arith, k, e);
    budget = within;
    bounded =
        let k = (x.schedule.steps - changed_at) + steps_since x.schedule y.schedule in
        few_below n ((x.schedule.steps - changed_at) + suc (steps_since x.schedule y.schedule)) (suc k) (omega arith)
        (few-both d.searching changed_at r n h);
    found = λ a f. omega arith;
    spent = λ f. absurd cc;
  }

  pub stepping-since : z.solver_state.sat_state ≢ verdict.Unknown → (changed_at : ℕ) → CountsSince changed_at x → CountsSince changed_at z
  stepping-since known changed_at r = record {
    low = let l = r.low in let k = not-less d.searching in let e = counted in omega (arith, l, k, e);
    few = λ n h.
        let a = d.same_count in
        let q = d.searching.count in
        let e = counted in
        few_below n (z.schedule.steps - changed_at) (suc (y.schedule.steps - changed_at)) (omega (arith, e))
        (few-here d.searching changed_at r n (omega (arith, a, q, h)));
    come = λ u. absurd (known u);
  }

  pub stepping-shortens : 2 ^ (2 * length x.assignment.current + 3) - steps_since x.schedule z.schedule < 2
      ^ (2 * length x.assignment.current + 3) - steps_since x.schedule y.schedule
  stepping-shortens =
      let b = (few-made d.searching).1 in
      let k = one-more in
      omega (arith, b, k)
